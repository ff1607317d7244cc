-- What is read without a fault is within all limits.
use Rattle.std.proofs.Common.{◌≡◌, ℕ, zero, suc, ◌+◌, ◌*◌, ◌≤◌, Bool, true, false, cond, not, ◌||◌, ◌&&◌, leb, ltb, List, [], ◌∷◌, length, Some, None, Ok, Option, subst, sym, refl, ap, ◌∙◌, arith}
use Rattle.product.specs.declared.place.Place.{Place}
use Rattle.terms.specs.declared.refusal.Refusal.TheVariants as refusal
use Rattle.meaning.specs.Meaning.{qubits}
use Rattle.meaning.specs.Product.{product_code}
use Rattle.meaning.specs.Codes.{Seed}
use Rattle.meaning.proofs.Product.{product_qubits, product_checks}
use Rattle.product.specs.Stands.{matrix_seed}
use Rattle.product.specs.Seed.{size_outside, outside, some_outside, after, rising_from, seed_fault, seed_of, marked}
use Rattle.rules.specs.Reports.{rises, rises_from, some_past}
use Rattle.tokens.specs.Tokens.{Rest}
use Rattle.tokens.specs.declared.section.Section.TheVariants.{Ones, Stages}
use Rattle.tokens.specs.declared.section.Section.TheVariants as section
use Rattle.trialfile.specs.declared.fault.SectionFault.TheVariants.{OutsideLimits, NotRising}
use Rattle.trialfile.specs.declared.kind.Kind.{Kind}
use Rattle.trialfile.specs.declared.kind.Kind.TheVariants.{Lost, Odd}
use Rattle.trialfile.specs.Reading.{gives, number_in, each, end_of_file}
use Rattle.trialfile.specs.Sections.{count, size, sizes, row, column, falls, place, ones, section_of, too_large, above, listed, list, switches}
use Rattle.trialfile.specs.Contents.{Contents, WithinLimits, contents}
use Rattle.trialfile.proofs.Accepted.{went_on, not_refused, passed, same}

pub size_within : (r : Rest) (p : ℕ × Rest) → size r ≡ Ok p → size_outside p.0 ≡ false
size_within r p e =
    let (k, is, tested) = went_on (number_in section.Seed r) _ p e in
    let (inside, given) = not_refused (OutsideLimits k.0.spot) (gives k.0.value) k.1 p (size_outside k.0.value) tested in
    ap size_outside (sym (same k.0.value k.1 p given)) ∙ inside

sizes_within : (r : Rest) (p : (ℕ × ℕ) × Rest) → sizes r ≡ Ok p → (size_outside p.0.0 ≡ false) × (size_outside p.0.1 ≡ false)
sizes_within r p e =
    let (k, _, e') = went_on (count section.Seed r) _ p e in
    let (a, first, e'') = went_on (size k.1) _ p e' in
    let (b, second, given) = went_on (size a.1) _ p e'' in
    let is = same (a.0, b.0) b.1 p given in
    (ap (λ (s : ℕ × ℕ). size_outside s.0) (sym is) ∙ size_within k.1 a first, ap (λ (s : ℕ × ℕ). size_outside s.1) (sym is) ∙ size_within a.1 b second)

-- the place of a one: inside the seed, and after the last
row_within : (r : ℕ) (last : Option Place) (s : Rest) (p : ℕ × Rest) → row r last s ≡ Ok p → leb r p.0 ≡ false
row_within r last s p e =
    let (k, _, tested) = went_on (number_in Ones s) _ p e in
    let (inside, rest) = not_refused (OutsideLimits k.0.spot) _ k.1 p (leb r k.0.value) tested in
    let (_, given) = not_refused (NotRising k.0.spot) (gives k.0.value) k.1 p (falls last k.0.value) rest in
    ap (leb r) (sym (same k.0.value k.1 p given)) ∙ inside

column_within : (n : ℕ) (last : Option Place) (a : ℕ) (s : Rest) (p : Place × Rest) → column n last a s ≡ Ok p → (p.0.row ≡ a) × (leb n p.0.column ≡ false) × (after last p.0 ≡ true)
column_within n last a s p e =
    let (k, _, tested) = went_on (number_in Ones s) _ p e in
    let q : Place = record { row = a; column = k.0.value } in
    let (inside, rest) = not_refused (OutsideLimits k.0.spot) _ k.1 p (leb n k.0.value) tested in
    let (later, given) = passed (NotRising k.0.spot) (gives q) k.1 p (after last q) rest in
    let is = sym (same q k.1 p given) in
    (ap (λ (x : Place). x.row) is, ap (λ (x : Place). leb n x.column) is ∙ inside, ap (after last) is ∙ later)

place_within : (r n : ℕ) (last : Option Place) (s : Rest) (p : Place × Rest) → place r n last s ≡ Ok p → (outside r n p.0 ≡ false) × (after last p.0 ≡ true)
place_within r n last s p e =
    let (a, found, e') = went_on (row r last s) _ p e in
    let (same_row, inside, later) = column_within n last a.0 a.1 p e' in
    ((λ i. (ap (leb r) same_row ∙ row_within r last s a found) i || inside i), later)

places_within : (k r n : ℕ) (last : Option Place) (s : Rest) (p : List Place × Rest) → each k (place r n) last s ≡ Ok p → (some_outside r n p.0 ≡ false) × (rising_from last p.0 ≡ true)
places_within zero r n last s p e = let is = sym (same {X = List Place} [] s p e) in (ap (some_outside r n) is, ap (rising_from last) is)
places_within (suc k) r n last s p e =
    let (a, found, e') = went_on (place r n last s) _ p e in
    let (b, others, given) = went_on (each k (place r n) (Some a.0) a.1) _ p e' in
    let is = sym (same (a.0 ∷ b.0) b.1 p given) in
    let (inside, later) = place_within r n last s a found in
    let (all_inside, rising) = places_within k r n (Some a.0) a.1 b others in
    (ap (some_outside r n) is ∙ (λ i. inside i || all_inside i), ap (rising_from last) is ∙ (λ i. later i && rising i))

ones_within : (r n : ℕ) (s : Rest) (p : List Place × Rest) → ones r n s ≡ Ok p → (some_outside r n p.0 ≡ false) × (rising_from None p.0 ≡ true)
ones_within r n s p e = let (k, _, read) = went_on (count Ones s) _ p e in places_within _ r n None k.1 p read

-- a list of the report: below the limit, and rising after the last
below : (n k : ℕ) → leb n k ≡ false → not (ltb k n) ≡ false
below n k h = grind arith

rises_on : Option ℕ → List ℕ → Bool
rises_on None l = rises l
rises_on (Some a) l = rises_from a l

listed_within : (a : Kind) (limit : ℕ) (last : Option ℕ) (s : Rest) (p : ℕ × Rest) → listed a limit last s ≡ Ok p → (leb limit p.0 ≡ false) × (above last p.0 ≡ true)
listed_within a limit last s p e =
    let (k, _, tested) = went_on (number_in (section_of a) s) _ p e in
    let (inside, rest) = not_refused (too_large a k.0.spot) _ k.1 p (leb limit k.0.value) tested in
    let (later, given) = passed (NotRising k.0.spot) (gives k.0.value) k.1 p (above last k.0.value) rest in
    let is = sym (same k.0.value k.1 p given) in
    (ap (leb limit) is ∙ inside, ap (above last) is ∙ later)

rises_more : (last : Option ℕ) (a : ℕ) (l : List ℕ) → above last a ≡ true → rises_on (Some a) l ≡ true → rises_on last (a ∷ l) ≡ true
unfolding rises_on
rises_more None a l h e = e
rises_more (Some b) a l h e = λ i. h i && e i

rises_none : (last : Option ℕ) → rises_on last [] ≡ true
unfolding rises_on
rises_none None = refl
rises_none (Some a) = refl

numbers_within : (k : ℕ) (a : Kind) (limit : ℕ) (last : Option ℕ) (s : Rest) (p : List ℕ × Rest) → each k (listed a limit) last s ≡ Ok p → (some_past limit p.0 ≡ false) × (rises_on last p.0 ≡ true)
numbers_within zero a limit last s p e = let is = sym (same {X = List ℕ} [] s p e) in (ap (some_past limit) is, ap (rises_on last) is ∙ rises_none last)
numbers_within (suc k) a limit last s p e =
    let (x, found, e') = went_on (listed a limit last s) _ p e in
    let (b, others, given) = went_on (each k (listed a limit) (Some x.0) x.1) _ p e' in
    let is = sym (same (x.0 ∷ b.0) b.1 p given) in
    let (inside, later) = listed_within a limit last s x found in
    let (all_inside, rising) = numbers_within k a limit (Some x.0) x.1 b others in
    (ap (some_past limit) is ∙ (λ i. below limit x.0 inside i || all_inside i), ap (rises_on last) is ∙ rises_more last x.0 b.0 later rising)

list_within : (a : Kind) (limit : ℕ) (s : Rest) (p : List ℕ × Rest) → list a limit s ≡ Ok p → (some_past limit p.0 ≡ false) × (rises p.0 ≡ true)
unfolding rises_on
list_within a limit s p e = let (k, _, read) = went_on (count (section_of a) s) _ p e in numbers_within k.0 a limit None k.1 p read

switches_within : (s : Rest) (p : ℕ × Rest) → switches s ≡ Ok p → ltb 15 p.0 ≡ false
switches_within s p e =
    let (k, _, e') = went_on (count Stages s) _ p e in
    let (w, _, tested) = went_on (number_in Stages k.1) _ p e' in
    let (few, given) = not_refused (OutsideLimits w.0.spot) (gives w.0.value) w.1 p (ltb 15 w.0.value) tested in
    ap (ltb 15) (sym (same w.0.value w.1 p given)) ∙ few

-- the product code of a seed that is taken has as many qubits and checks as its sizes say
code_sizes : (r n : ℕ) (places : List Place) → size_outside r ≡ false → size_outside n ≡ false → (qubits (product_code r n (seed_of r n places)) ≡ n * n + r * r) × (length (product_code r n (seed_of r n places)).checks ≡ n * r)
code_sizes r n places hr hn =
    let seed : Seed r n (seed_of r n places) = matrix_seed r n (λ a b. marked a b places) (some r hr) (few r hr) (some n hn) (few n hn) in
    (product_qubits r n (seed_of r n places) seed, product_checks r n (seed_of r n places) seed)
  where
    some : (k : ℕ) → size_outside k ≡ false → 1 ≤ k
    some k h = grind arith

    few : (k : ℕ) → size_outside k ≡ false → k ≤ 32
    few k h = grind arith

pub contents_within : (r : Rest) (p : Contents × Rest) → contents r ≡ Ok p → WithinLimits p.0
contents_within r p e =
    let (s, sizes_found, e₁) = went_on (sizes r) _ p e in
    let (o, ones_found, e₂) = went_on (ones s.0.0 s.0.1 s.1) _ p e₁ in
    let (l, lost_found, e₃) = went_on (list Lost (s.0.1 * s.0.1 + s.0.0 * s.0.0) o.1) _ p e₂ in
    let (d, odd_found, e₄) = went_on (list Odd (s.0.1 * s.0.0) l.1) _ p e₃ in
    let (w, switches_found, e₅) = went_on (switches d.1) _ p e₄ in
    let (f, _, given) = went_on (end_of_file w.1) _ p e₅ in
    let c : Contents = record { rows = s.0.0; columns = s.0.1; ones = o.0; lost = l.0; odd = d.0; switches = w.0 } in
    let (some_rows, some_columns) = sizes_within r s sizes_found in
    let (inside, rising) = ones_within s.0.0 s.0.1 s.1 o ones_found in
    let (low, lost_rise) = list_within Lost (s.0.1 * s.0.1 + s.0.0 * s.0.0) o.1 l lost_found in
    let (low', odd_rise) = list_within Odd (s.0.1 * s.0.0) l.1 d odd_found in
    let (have_qubits, have_checks) = code_sizes s.0.0 s.0.1 o.0 some_rows some_columns in
    subst WithinLimits (same c f.1 p given)
    (record {
      seed = seed_taken s.0.0 s.0.1 o.0 some_rows some_columns inside rising;
      lost_qubits = ap (λ n. some_past n l.0) have_qubits ∙ low;
      lost_rise = lost_rise;
      odd_checks = ap (λ n. some_past n d.0) have_checks ∙ low';
      odd_rise = odd_rise;
      stages = switches_within d.1 w switches_found;
    })
  where
    seed_taken : (r n : ℕ) (places : List Place) → size_outside r ≡ false → size_outside n ≡ false → some_outside r n places ≡ false → rising_from None places ≡ true → seed_fault r n places ≡ None
    seed_taken r n places a b c d = λ i. cond (a i || (b i || c i)) (Some refusal.OutsideLimits) (cond (d i) None (Some refusal.NotRising))
