use Rattle.std.proofs.Common.{◌≡◌, ℕ, zero, suc, Bool, false, ◌&&◌, eqb, List, [], ◌∷◌, get_or, vec_items, sym, refl, ap, ◌∙◌, rules, tests}
use Rattle.sets.specs.Sets.{row, meet, size}
use Rattle.table.specs.OfTable.{meaning_of}
use Rattle.upkeep.specs.Counts.{counts_in}
use Rattle.upkeep.specs.Statuses.{erased_of}
use Rattle.sets.proofs.Sizes.{size_none}
use Rattle.trial.proofs.trial.erasing.Erasures.holds_one.Goals as goal

-- the count of a set; what is no set has none
count_at : (sets : List (List Bool)) (b : List Bool) (k : ℕ) → get_or (counts_in sets b) k 0 ≡ size (meet (row sets k) b)
count_at [] b k = sym (size_none (λ y. false && y) (λ y. refl) b)
count_at (s ∷ sets) b zero = refl
count_at (s ∷ sets) b (suc k) = count_at sets b k

pub returns : goal.returns
returns c =
    let e = c.args.self.now in
    let k = c.args.check in
    let read : c.eq.result ≡ eqb (get_or (vec_items e.held) k 0) 1 = search (rules, tests) in
    read ∙ ap (λ l. eqb (get_or l k 0) 1) e.counts ∙ ap (λ n. eqb n 1) (count_at (meaning_of e.table.now).checks (erased_of (vec_items e.status)) k)
