-- With nothing chosen, the products that were pruned make up all the errors that fit.
use Rattle.std.proofs.Common.{◌≡◌, ℕ, ◌+◌, ◌^◌, ◌≤◌, Bool, true, false, ◌⊎◌, List, [], ◌∷◌, ◌++◌, map, length, sym, refl, ap, ◌∙◌, subst, inl, inr, true≢false, arith, length-append}
use mathlib.Core.Bool.{false≢true}
use native.Mathlib.Nat.{two-pow-succ}
use lib.ListN.{length-map}
use Rattle.sets.specs.Bits.{flip}
use Rattle.sets.specs.Sets.{odd, has, row, plus, empty}
use Rattle.sets.specs.Lists.{In, Distinct, Exactly}
use Rattle.sets.proofs.Lists.{at_most, in_cases, of_map, distinct_map, distinct_append}
use Rattle.sets.proofs.Bits.{clash, flip_cases, flip_false}
use Rattle.sets.proofs.Sets.{has_plus, has_empty, length_over, ext, odd_plus}
use Rattle.meaning.specs.Meaning.{Meaning, Sound, qubits}
use Rattle.rules.specs.Reports.{Report, For, Fits, product, Named}
use Rattle.rules.proofs.Split.{Res, twice, plus_comm}
use Rattle.rules.proofs.Core.{Cut, Avoids, Chain, product_long, product_even, product_append, named_append, fits_res, res_fits}

-- equal or not
same_bit : (a b : Bool) → (a ≡ b) ⊎ (a ≡ b → ⊥)
same_bit true true = inl refl
same_bit true false = inr true≢false
same_bit false true = inr false≢true
same_bit false false = inl refl

same_set : (a b : List Bool) → (a ≡ b) ⊎ (a ≡ b → ⊥)
same_set [] [] = inl refl
same_set [] (y ∷ b) = inr (λ e. let z : ◌≡◌ {A = ℕ} 0 1 = cc in omega arith)
same_set (x ∷ a) [] = inr (λ e. let z : ◌≡◌ {A = ℕ} 0 1 = cc in omega arith)
same_set (x ∷ a) (y ∷ b) = go (same_bit x y) (same_set a b)
  where
    go : (x ≡ y) ⊎ (x ≡ y → ⊥) → (a ≡ b) ⊎ (a ≡ b → ⊥) → (◌≡◌ {A = List Bool} (x ∷ a) (y ∷ b)) ⊎ (◌≡◌ {A = List Bool} (x ∷ a) (y ∷ b) → ⊥)
    go (inl p) (inl q) = inl (cc)
    go (inl p) (inr q) = inr (λ e. let f : a ≡ b = cc in q f)
    go (inr p) r = inr (λ e. let f : x ≡ y = cc in p f)

is_in : (x : List Bool) (l : List (List Bool)) → In x l ⊎ (In x l → ⊥)
is_in x [] = inr (λ m. m)
is_in x (y ∷ l) = go (same_set x y) (is_in x l)
  where
    go : (x ≡ y) ⊎ (x ≡ y → ⊥) → In x l ⊎ (In x l → ⊥) → In x (y ∷ l) ⊎ (In x (y ∷ l) → ⊥)
    go (inl p) r = inl (inl p)
    go (inr p) (inl q) = inl (inr q)
    go (inr p) (inr q) = inr (λ m. elim m [ inl a ↦ p a | inr b ↦ q b ])

-- as many distinct ones as there are: all of them
all_of : {P : List Bool → Type 0} (n : ℕ) → Exactly n P → (l : List (List Bool)) → Distinct l → ((x : List Bool) → In x l → P x) → length l ≡ n → (x : List Bool) → P x → In x l
all_of {P} n E l d s c x p = elim (is_in x l) [
  | inl m ↦ m
  | inr m ↦
      let h : length (x ∷ l) ≤ length E.all = at_most (x ∷ l) E.all (m, d) (λ y k. elim k [ inl e ↦ E.lists.complete y (subst P (sym e) p) | inr k' ↦ E.lists.complete y (s y k') ]) in
      absurd (omega (arith, h, E.count))
]

module _ (M : Meaning) (sound : Sound M) where
  -- the sums of the products
  abbrev sums : List Cut → List (List Bool)
  sums [] = empty (qubits M) ∷ []
  sums (g ∷ G) = sums G ++ map (plus (product M g.list)) (sums G)

  sums_many : (G : List Cut) → length (sums G) ≡ 2 ^ length G
  sums_many [] = refl
  sums_many (g ∷ G) =
      length-append (sums G) (map (plus (product M g.list)) (sums G))
      ∙ ap (λ (n : ℕ). length (sums G) + n) (length-map (sums G) (plus (product M g.list)))
      ∙ omega (arith, sums_many G, two-pow-succ (length G))

  module _ (lost U : ℕ → Bool) where
    -- each is a product
    sums_product : (G : List Cut) → Chain M sound lost U G → (x : List Bool) → In x (sums G) → (l : List ℕ) × Named M l × (x ≡ product M l)
    sums_product [] c x (inl e) = ([], tt, e)
    sums_product [] c x (inr m) = absurd m
    sums_product (g ∷ G) c x m = go (in_cases x (sums G) (map (plus (product M g.list)) (sums G)) m) (sums_product G c.1)
      where
        go : In x (sums G) ⊎ In x (map (plus (product M g.list)) (sums G)) → ((y : List Bool) → In y (sums G) → (l : List ℕ) × Named M l × (y ≡ product M l)) → (l : List ℕ) × Named M l × (x ≡ product M l)
        go (inl k) ih = ih x k
        go (inr k) ih =
            let r = of_map (plus (product M g.list)) x (sums G) k in
            let p = ih r.0 r.1 in
            let m : Named M (g.list ++ p.0) = named_append M sound g.list p.0 c.0.0 p.1 in (
              g.list ++ p.0,
              m,
              r.2 ∙ ap (plus (product M g.list)) p.2
                  ∙ ext (plus (product M g.list) (product M p.0)) (product M (g.list ++ p.0))
                  (length_over flip (product M g.list) (product M p.0) (qubits M) (product_long M sound g.list c.0.0) (product_long M sound p.0 p.1) ∙ sym (product_long M sound (g.list ++ p.0) m))
                  (λ i. has_plus (product M g.list) (product M p.0) i ∙ sym (product_append M sound g.list p.0 i)),
            )

    -- each lies in the lost qubits
    sums_lost : (G : List Cut) → Chain M sound lost U G → (x : List Bool) → In x (sums G) → (i : ℕ) → has x i ≡ true → lost i ≡ true
    sums_lost [] c x (inl e) i h = absurd (clash (ap (λ t. has t i) (sym e) ∙ h) (has_empty (qubits M) i))
    sums_lost [] c x (inr m) i h = absurd m
    sums_lost (g ∷ G) c x m i h = go (in_cases x (sums G) (map (plus (product M g.list)) (sums G)) m) (sums_lost G c.1)
      where
        go : In x (sums G) ⊎ In x (map (plus (product M g.list)) (sums G)) → ((y : List Bool) → In y (sums G) → (i : ℕ) → has y i ≡ true → lost i ≡ true) → lost i ≡ true
        go (inl k) ih = ih x k i h
        go (inr k) ih =
            let r = of_map (plus (product M g.list)) x (sums G) k in
            elim (flip_cases (has (product M g.list) i) (has r.0 i) (sym (has_plus (product M g.list) r.0 i) ∙ ap (λ t. has t i) (sym r.2) ∙ h)) [
              | inl a ↦ c.0.1 i a
              | inr a ↦ ih r.0 r.1 i a
            ]

    sums_avoid : (G : List Cut) (q : ℕ) → Avoids M q G → (x : List Bool) → In x (sums G) → has x q ≡ false
    sums_avoid [] q a x (inl e) = ap (λ t. has t q) e ∙ has_empty (qubits M) q
    sums_avoid [] q a x (inr m) = absurd m
    sums_avoid (g ∷ G) q a x m = go (in_cases x (sums G) (map (plus (product M g.list)) (sums G)) m) (sums_avoid G q a.1)
      where
        go : In x (sums G) ⊎ In x (map (plus (product M g.list)) (sums G)) → ((y : List Bool) → In y (sums G) → has y q ≡ false) → has x q ≡ false
        go (inl k) ih = ih x k
        go (inr k) ih =
            let r = of_map (plus (product M g.list)) x (sums G) k in
            ap (λ t. has t q) r.2 ∙ has_plus (product M g.list) r.0 q ∙ ap (λ b. flip b (has r.0 q)) a.0 ∙ ih r.0 r.1

    sums_long : (G : List Cut) → Chain M sound lost U G → (x : List Bool) → In x (sums G) → length x ≡ qubits M
    sums_long G c x m = let p = sums_product G c x m in ap length p.2 ∙ product_long M sound p.0 p.1

    plus_same : (a x y : List Bool) → length a ≡ qubits M → length x ≡ qubits M → length y ≡ qubits M → plus a x ≡ plus a y → x ≡ y
    plus_same a x y p q r e = sym (twice (qubits M) M.checks a x p q) ∙ ap (plus a) e ∙ twice (qubits M) M.checks a y p r

    -- no two are the same
    sums_distinct : (G : List Cut) → Chain M sound lost U G → Distinct (sums G)
    sums_distinct [] c = (λ m. m, tt)
    sums_distinct (g ∷ G) c =
        distinct_append (sums G) (map (plus (product M g.list)) (sums G)) (sums_distinct G c.1)
        (distinct_map (plus (product M g.list)) (sums G) (λ x y m k e. plus_same (product M g.list) x y (product_long M sound g.list c.0.0) (sums_long G c.1 x m) (sums_long G c.1 y k) e) (sums_distinct G c.1))
        (λ x a b. let r = of_map (plus (product M g.list)) x (sums G) b in
        clash
        (ap (λ t. has t g.pruned) r.2 ∙ has_plus (product M g.list) r.0 g.pruned ∙ ap (flip (has (product M g.list) g.pruned)) (sums_avoid G g.pruned c.0.4 r.0 r.1) ∙ flip_false (has (product M g.list) g.pruned) ∙ c.0.2)
        (sums_avoid G g.pruned c.0.4 x a))

  module _ (R : Report) (for : For M R) (U : ℕ → Bool) (G : List Cut) (c : Chain M sound (has R.lost) U G) (X : List Bool) (fits : Fits M R X) where
    shifted_fits : (x : List Bool) → In x (sums G) → Fits M R (plus X x)
    shifted_fits x m =
        res_fits M sound R for (plus X x) (record {
          under = record {
            long = length_over flip X x (qubits M) r.under.long (sums_long (has R.lost) U G c x m);
            inside = λ i h. elim (flip_cases (has X i) (has x i) (sym (has_plus X x i) ∙ h)) [ inl a ↦ r.under.inside i a | inr a ↦ sums_lost (has R.lost) U G c x m i a ];
          };
          told = λ d. odd_plus (row M.checks d) X x ∙ ap (flip (odd (row M.checks d) X)) (let p = sums_product (has R.lost) U G c x m in ap (odd (row M.checks d)) p.2 ∙ product_even M sound p.0 p.1 d) ∙ flip_false (odd (row M.checks d) X) ∙ r.told d;
        })
      where
        r : Res (qubits M) M.checks (has R.lost) (has R.odds) X
        r = fits_res M sound R for X fits

    pub differ_by_product : Exactly (2 ^ length G) (Fits M R) → (e : List Bool) → Fits M R e → (l : List ℕ) × Named M l × (plus e X ≡ product M l)
    differ_by_product E e f =
        let long : length X ≡ qubits M = (fits_res M sound R for X fits).under.long in
        let m : In e (map (plus X) (sums G)) = all_of {P = Fits M R} (2 ^ length G) E (map (plus X) (sums G))
        (distinct_map (plus X) (sums G) (λ x y m k q. plus_same (has R.lost) U X x y long (sums_long (has R.lost) U G c x m) (sums_long (has R.lost) U G c y k) q) (sums_distinct (has R.lost) U G c))
        (λ x k. let q = of_map (plus X) x (sums G) k in subst (Fits M R) (sym q.2) (shifted_fits q.0 q.1))
        (length-map (sums G) (plus X) ∙ sums_many G) e f in
        let q = of_map (plus X) e (sums G) m in
        let p = sums_product (has R.lost) U G c q.0 q.1 in (
          p.0,
          p.1,
          plus_comm (qubits M) M.checks e X (fits_res M sound R for e f).under.long long ∙ ap (plus X) q.2 ∙ twice (qubits M) M.checks X q.0 long (sums_long (has R.lost) U G c q.0 q.1) ∙ p.2,
        )
