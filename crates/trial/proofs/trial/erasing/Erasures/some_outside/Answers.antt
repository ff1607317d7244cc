use Rattle.std.proofs.Common.{◌≡◌, ℕ, true, false, not, ◌||◌, ltb, List, [], ◌∷◌, length, sym, refl, ◌∙◌, ap₂, rules, tests, ltb-true}
use Rattle.std.specs.List.{list_any}
use Rattle.std.proofs.lemmas.Iterator.{YieldsList-from_slice}
use Rattle.std.proofs.lemmas.Iterator.Search.{any_from_yields_List}
use Rattle.std.proofs.lemmas.List.{length-map}
use Rattle.std.proofs.lemmas.Bool.{or_parts, not-false}
use Rattle.terms.specs.declared.row.Row.TheVariants.{Generator}
use Rattle.sets.specs.Sets.{row, within}
use Rattle.sets.proofs.Sets.{row_of}
use Rattle.meaning.specs.Meaning.{qubits}
use Rattle.rules.specs.declared.answers.Status.{Status}
use Rattle.rules.specs.Reports.{some_past}
use Rattle.rules.specs.Calls.{some_outside}
use Rattle.table.specs.OfTable.{meaning_of, told_of}
use Rattle.table.specs.Stands.{table_sound, table_tells}
use Rattle.table.specs.declared.Table.{Table}
use Rattle.upkeep.specs.Rows.{all_in}
use Rattle.upkeep.specs.Statuses.{is_erased, erased_of}
use Rattle.upkeep.proofs.Rows.{all_within}
use Rattle.trial.proofs.trial.erasing.Erasures.some_outside.Goals as goal

-- all qubits that are told of a generator are erased exactly if its set is
told_within : (t : Table) (status : List Status) → length status ≡ qubits (meaning_of t) → (g : ℕ) → ltb g (length (meaning_of t).generators) ≡ true
    → all_in (erased_of status) (told_of t (Generator g)) ≡ within (row (meaning_of t).generators g) (erased_of status)
told_within t status fit g low =
    all_within (erased_of status) (row (meaning_of t).generators g) (told_of t (Generator g))
    ((table_sound t).generators_range (row (meaning_of t).generators g) (row_of (meaning_of t).generators g (ltb-true g (length (meaning_of t).generators) low)) ∙ sym (length-map status is_erased ∙ fit))
    (λ q. (table_tells t).names (Generator g) low q)

told_outside : (t : Table) (status : List Status) → length status ≡ qubits (meaning_of t) → (l : List ℕ) → some_past (length (meaning_of t).generators) l ≡ false
    → list_any (λ g. not (all_in (erased_of status) (told_of t (Generator g)))) l ≡ some_outside (meaning_of t).generators (erased_of status) l
told_outside t status fit [] named = refl
told_outside t status fit (g ∷ l) named =
    let n = length (meaning_of t).generators in
    let b = or_parts (not (ltb g n)) (some_past n l) named in
    ap₂ (λ x y. not x || y) (told_within t status fit g (not-false (ltb g n) b.0)) (told_outside t status fit l b.1)

pub returns : goal.returns
returns c =
    let t = c.args.self.now.table.now in
    let status = c.args.self.now.status.items in
    any_from_yields_List (λ g. not (all_in (erased_of status) (told_of t (Generator g)))) _ _ _ c.any.ensures.ran (YieldsList-from_slice c.args.generators.now cc) (λ x b q k. search (rules, tests))
    ∙ told_outside t status c.args.self.now.fit c.args.generators.now c.requires
