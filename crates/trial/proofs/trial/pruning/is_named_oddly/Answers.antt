use Rattle.std.proofs.Common.{◌≡◌, ℕ, ◌+◌, ◌%◌, Bool, true, false, ◌||◌, cond, eqb, List, [], ◌∷◌, sym, refl, ap, ap₂, ◌∙◌, arith, rules}
use Rattle.std.specs.List.{count_by, list_any}
use Rattle.std.proofs.lemmas.List.Sums.{sum_by-cons}
use Rattle.sets.specs.Bits.{flip}
use Rattle.sets.specs.Sets.{has, row, among}
use Rattle.sets.proofs.Sets.{has_empty, has_plus}
use Rattle.meaning.specs.Meaning.{Meaning, qubits}
use Rattle.rules.specs.Reports.{product}
use Rattle.table.specs.OfTable.{meaning_of}
use Rattle.upkeep.proofs.Holders.{holders_named}
use Rattle.trial.proofs.trial.pruning.is_named_oddly.Goals as goal

-- one entry more
odd_more : (b : Bool) (n : ℕ) → eqb ((cond b 1 0 + n) % 2) 1 ≡ flip b (eqb (n % 2) 1)
odd_more true n = grind arith
odd_more false n = grind arith

-- how many entries hold q, and whether q is in their product
odds : (M : Meaning) (q : ℕ) (holds : ℕ → Bool) → ((g : ℕ) → holds g ≡ has (row M.generators g) q) → (l : List ℕ) → eqb (count_by holds l % 2) 1 ≡ has (product M l) q
odds M q holds same [] = sym (has_empty (qubits M) q)
odds M q holds same (g ∷ l) = ap (λ n. eqb (n % 2) 1) (sum_by-cons (λ k. cond (holds k) 1 0) g l) ∙ odd_more (holds g) (count_by holds l) ∙ ap₂ flip (same g) (odds M q holds same l) ∙ sym (has_plus (row M.generators g) (product M l) q)

swapped : (j k : ℕ) → eqb j k ≡ eqb k j
swapped j k = grind arith

listed : (k : ℕ) (l : List ℕ) → list_any (λ j. eqb j k) l ≡ among k l
listed k [] = refl
listed k (j ∷ l) = ap₂ ◌||◌ (swapped j k) (listed k l)

pub returns : goal.returns
returns c =
    let M = meaning_of c.args.table.now in
    let q = c.args.qubit in
    let holders = c.generators_at-holders.result.now in
    let counted : c.count.result ≡ count_by (λ g. list_any (λ j. eqb j g) holders) c.args.generators.now = search rules in
    ap (λ n. eqb (n % 2) 1) counted
    ∙ odds M q (λ g. list_any (λ j. eqb j g) holders) (λ g. listed g holders ∙ ap (among g) c.generators_at-holders.ensures ∙ holders_named M.generators q g) c.args.generators.now
