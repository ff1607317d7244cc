-- The stated order of a product code's rows names every qubit of a row, each once.
use Rattle.std.proofs.Common.{◌≡◌, ℕ, ◌+◌, ◌-◌, ◌*◌, ◌/◌, ◌%◌, ◌<◌, Bool, true, false, List, [], ◌++◌, map, length, sym, refl, ap, ◌∙◌, subst, inl, inr, arith, ltb-true}
use lib.ListN.{length-map}
use Rattle.std.specs.List.{range_with_len}
use Rattle.std.proofs.lemmas.Nat.{div-add-mod', div_below, mod_below, div-mul-add}
use Rattle.std.proofs.lemmas.List.FromFn.{length-range_with_len, get_or-map-range_with_len}
use Rattle.std.proofs.lemmas.List.{get_or_append_left, get_or-append-add}
use Rattle.std.proofs.lemmas.Bool.{cases_lt}
use Rattle.terms.specs.declared.row.Row.{Row}
use Rattle.terms.specs.declared.row.Row.TheVariants.{Check, Generator}
use Rattle.sets.specs.Lists.{In, Distinct, flat}
use Rattle.sets.specs.Sets.{has, row, elements, among, repeats}
use Rattle.sets.proofs.Bits.{same}
use Rattle.sets.proofs.Lists.{in_map, of_map, in_cases, in_left, in_right, distinct_append, distinct_map}
use Rattle.sets.proofs.Sets.{has_below}
use Rattle.sets.proofs.Numbers.{in_among, among_in, elements_distinct, distinct_repeats}
use Rattle.meaning.specs.Telling.{is_row, row_set}
use Rattle.meaning.specs.Product.{column, check_at, generator_at, check_told, generator_told, product_code, product_told}
use Rattle.meaning.specs.Codes.{Seed, ProductTells}
use Rattle.meaning.proofs.Blocks.{get_or_flat, line_told, length_line, comb_told, length_comb}
use Rattle.meaning.proofs.Product.{row_long, column_long, column_has, product_checks, product_generators}

-- Two sets one after the other: where s names the first, and t the second with its numbers raised by the first's length,
-- s and t together name the whole.
module _ (N : ℕ) (A B : List Bool) (s : List ℕ) (X : List ℕ) (g : ℕ → ℕ) (long : length A ≡ N) (first : (p : ℕ) → among p s ≡ has A p) (second : (p : ℕ) → among p (map g X) ≡ has B p) where
  abbrev both : List ℕ
  both = s ++ map (λ x. N + g x) X

  pub both_named : (q : ℕ) → among q both ≡ has (A ++ B) q
  both_named q = same (among q both) (has (A ++ B) q) there back
    where
      from_first : In q s → has (A ++ B) q ≡ true
      from_first m =
          let h = sym (first q) ∙ in_among q s m in
          get_or_append_left A B false q (has_below A q h) ∙ h

      from_second : In q (map (λ x. N + g x) X) → has (A ++ B) q ≡ true
      from_second m =
          let r = of_map (λ x. N + g x) q X m in
          let at : q ≡ length A + g r.0 = omega (arith, r.2, long) in
          ap (has (A ++ B)) at ∙ get_or-append-add A B (g r.0) false ∙ sym (second (g r.0)) ∙ in_among (g r.0) (map g X) (in_map g r.0 X r.1)

      there : among q both ≡ true → has (A ++ B) q ≡ true
      there e = elim (in_cases q s (map (λ x. N + g x) X) (among_in q both e)) [ inl m ↦ from_first m | inr m ↦ from_second m ]

      in_first : q < length A → has (A ++ B) q ≡ true → In q both
      in_first l e = in_left q s (map (λ x. N + g x) X) (among_in q s (first q ∙ sym (get_or_append_left A B false q l) ∙ e))

      in_second : (p : ℕ) → length A + p ≡ q → has (A ++ B) q ≡ true → In q both
      in_second p at e =
          let r = of_map g p X (among_in p (map g X) (second p ∙ sym (get_or-append-add A B p false) ∙ ap (has (A ++ B)) at ∙ e)) in
          let z : N + g r.0 ≡ q = omega (arith, at, r.2, long) in
          in_right q s (map (λ x. N + g x) X) (subst (λ (k : ℕ). In k (map (λ x. N + g x) X)) z (in_map (λ x. N + g x) r.0 X r.1))

      back : has (A ++ B) q ≡ true → among q both ≡ true
      back e = in_among q both (elim (cases_lt q (length A)) [ inl h ↦ in_first h e | inr h ↦ in_second (q - length A) (omega arith) e ])

  pub both_once : Distinct s → Distinct X → ((x y : ℕ) → g x ≡ g y → x ≡ y) → repeats both ≡ false
  both_once ds dx inj =
      distinct_repeats both
      (distinct_append s (map (λ x. N + g x) X) ds
      (distinct_map (λ x. N + g x) X (λ x y _ _ e. inj x y (omega arith)) dx)
      (λ q m k. let r = of_map (λ x. N + g x) q X k in absurd (omega (arith, r.2, long, has_below A q (sym (first q) ∙ in_among q s m)))))

-- the k-th row of a grid of rows
row_at : (w m : ℕ) (f : ℕ → ℕ → List Bool) (k : ℕ) → 0 < w → k < m * w → row (flat (λ x. map (λ y. f x y) (range_with_len 0 w)) (range_with_len 0 m)) k ≡ f (k / w) (k % w)
row_at w m f k some h =
    let at = div-add-mod' k w in
    let low = div_below k w m some h in
    let rest = mod_below k w some in
    ap (row (flat (λ x. map (λ y. f x y) (range_with_len 0 w)) (range_with_len 0 m))) (sym at)
    ∙ get_or_flat w (λ x. map (λ y. f x y) (range_with_len 0 w)) 0 m [] (λ x. length-map (range_with_len 0 w) (λ y. f x y) ∙ length-range_with_len 0 w) (k / w) (k % w) low rest
    ∙ get_or-map-range_with_len (λ y. f (0 + k / w) y) 0 w (k % w) (k % w) [] rest (omega arith)
    ∙ ap (λ x. f x (k % w)) (omega arith)

same_place : (w x y k : ℕ) → k < w → x * w + k ≡ y * w + k → x ≡ y
same_place w x y k h e = sym (div-mul-add x w k h) ∙ ap (λ p. p / w) e ∙ div-mul-add y w k h

module _ (r n : ℕ) (H : List (List Bool)) (seed : Seed r n H) where
  check_named : (b a' : ℕ) → b < n → a' < r → (q : ℕ) → among q (check_told r n H b a') ≡ has (check_at r n H b a') q
  check_named b a' hb ha' =
      both_named (n * n) _ _ (map (λ b'. b * n + b') (elements (row H a'))) (elements (column r n H b)) (λ a. a * r + a')
      (length_line n n b (row H a') hb (row_long r n H seed a' ha'))
      (line_told n n b (row H a') hb (row_long r n H seed a' ha'))
      (comb_told r r a' (λ a. has (row H a) b) (column r n H b) ha' (column_long r n H seed b) (λ a. column_has r n H seed a b))

  check_once : (b a' : ℕ) → b < n → a' < r → repeats (check_told r n H b a') ≡ false
  check_once b a' hb ha' =
      both_once (n * n) _ _ (map (λ b'. b * n + b') (elements (row H a'))) (elements (column r n H b)) (λ a. a * r + a')
      (length_line n n b (row H a') hb (row_long r n H seed a' ha'))
      (line_told n n b (row H a') hb (row_long r n H seed a' ha'))
      (comb_told r r a' (λ a. has (row H a) b) (column r n H b) ha' (column_long r n H seed b) (λ a. column_has r n H seed a b))
      (distinct_map (λ b'. b * n + b') (elements (row H a')) (λ x y _ _ e. omega arith) (elements_distinct 0 (row H a')))
      (elements_distinct 0 (column r n H b))
      (λ x y e. same_place r x y a' ha' e)

  generator_named : (a b' : ℕ) → a < r → b' < n → (q : ℕ) → among q (generator_told r n H a b') ≡ has (generator_at r n H a b') q
  generator_named a b' ha hb' =
      both_named (n * n) _ _ (map (λ b. b * n + b') (elements (row H a))) (elements (column r n H b')) (λ a'. a * r + a')
      (length_comb n n b' (λ b. has (row H a) b) (row H a) hb' (row_long r n H seed a ha) (λ b. refl))
      (comb_told n n b' (λ b. has (row H a) b) (row H a) hb' (row_long r n H seed a ha) (λ b. refl))
      (line_told r r a (column r n H b') ha (column_long r n H seed b'))

  generator_once : (a b' : ℕ) → a < r → b' < n → repeats (generator_told r n H a b') ≡ false
  generator_once a b' ha hb' =
      both_once (n * n) _ _ (map (λ b. b * n + b') (elements (row H a))) (elements (column r n H b')) (λ a'. a * r + a')
      (length_comb n n b' (λ b. has (row H a) b) (row H a) hb' (row_long r n H seed a ha) (λ b. refl))
      (comb_told n n b' (λ b. has (row H a) b) (row H a) hb' (row_long r n H seed a ha) (λ b. refl))
      (line_told r r a (column r n H b') ha (column_long r n H seed b'))
      (distinct_map (λ b. b * n + b') (elements (row H a)) (λ x y _ _ e. same_place n x y b' hb' e) (elements_distinct 0 (row H a)))
      (elements_distinct 0 (column r n H b'))
      (λ x y e. omega arith)

  check_low : (k : ℕ) → is_row (product_code r n H) (Check k) ≡ true → k < n * r
  check_low k h = omega (arith, ltb-true k _ h, product_checks r n H seed)

  generator_low : (k : ℕ) → is_row (product_code r n H) (Generator k) ≡ true → k < r * n
  generator_low k h = omega (arith, ltb-true k _ h, product_generators r n H seed)

  names : (x : Row) → is_row (product_code r n H) x ≡ true → (q : ℕ) → among q (product_told r n H x) ≡ has (row_set (product_code r n H) x) q
  names (Check k) h q =
      check_named (k / r) (k % r) (div_below k r n seed.some_row (check_low k h)) (mod_below k r seed.some_row) q
      ∙ ap (λ l. has l q) (sym (row_at r n (λ b a'. check_at r n H b a') k seed.some_row (check_low k h)))
  names (Generator k) h q =
      generator_named (k / n) (k % n) (div_below k n r seed.some_column (generator_low k h)) (mod_below k n seed.some_column) q
      ∙ ap (λ l. has l q) (sym (row_at n r (λ a b'. generator_at r n H a b') k seed.some_column (generator_low k h)))

  once : (x : Row) → is_row (product_code r n H) x ≡ true → repeats (product_told r n H x) ≡ false
  once (Check k) h = check_once (k / r) (k % r) (div_below k r n seed.some_row (check_low k h)) (mod_below k r seed.some_row)
  once (Generator k) h = generator_once (k / n) (k % n) (div_below k n r seed.some_column (generator_low k h)) (mod_below k n seed.some_column)

pub product_tells : ProductTells
product_tells r n H seed = record { names = names r n H seed; once = once r n H seed }
