-- A list that is read element by element.
use Rattle.std.proofs.Common.{◌≡◌, ℕ, zero, suc, ◌+◌, ◌<◌, false, ltb, List, [], ◌∷◌, ◌++◌, map, Some, Option, sym, refl, ap, ◌∙◌, arith, lt-ltb}
use Rattle.std.specs.List.{range_with_len, filter_map, cons_option}
use Rattle.std.proofs.lemmas.List.FromFn.{map-range_with_len_more, fill_by_all}
use Rattle.std.proofs.lemmas.List.{length-map, get_or-map}
use Rattle.terms.specs.Rows.{side_of}
use Rattle.terms.specs.declared.row.Side.TheVariants.{Zero}
use Rattle.sets.specs.Sets.{has}
use Rattle.meaning.specs.Meaning.{Meaning, qubits}
use Rattle.meaning.specs.Telling.{side}
use Rattle.meaning.proofs.Answered.{in_range}

module _ {X : Type 0} where
  pub made_more : (f : ℕ → X) (before after : List X) (k : ℕ) (x : X) → before ≡ map f (range_with_len 0 k) → after ≡ before ++ x ∷ [] → x ≡ f k → after ≡ map f (range_with_len 0 (k + 1))
  made_more f before after k x b a e =
      let z : 0 + k ≡ k = omega arith in
      a ∙ ap (λ l. l ++ x ∷ []) b ∙ ap (λ y. map f (range_with_len 0 k) ++ y ∷ []) e ∙ sym (map-range_with_len_more f 0 k k z)

  -- what is asked of each number is answered
  filter_all : (h : ℕ → Option X) (f : ℕ → X) (a n : ℕ) → ((k : ℕ) → k < a + n → h k ≡ Some (f k)) → filter_map h (range_with_len a n) ≡ map f (range_with_len a n)
  filter_all h f a zero e = refl
  filter_all h f a (suc n) e =
      ap (λ o. cons_option o (filter_map h (range_with_len (a + 1) n))) (e a (omega arith))
      ∙ ap (λ l. f a ∷ l) (filter_all h f (a + 1) n (λ k l. e k (omega arith)))

pub sides_told : (M : Meaning) → filter_map (side M) (range_with_len 0 (qubits M)) ≡ map side_of M.sides
sides_told M =
    filter_all (side M) (λ q. side_of (has M.sides q)) 0 (qubits M) (λ k h. sym (in_range (ltb k (qubits M)) (side_of (has M.sides k)) (lt-ltb k (qubits M) (omega arith))))
    ∙ sym (fill_by_all (λ q. side_of (has M.sides q)) (map side_of M.sides) (qubits M) Zero (length-map M.sides side_of) (λ k h. get_or-map side_of M.sides k false Zero h))
