-- Sides.
use Rattle.std.proofs.Common.{◌≡◌, ℕ, ◌<◌, Bool, true, false, not, ◌&&◌, map, length, Some, refl, ap, ◌∙◌, arith, lt-ltb}
use Rattle.std.specs.Option.{option_eq}
use Rattle.terms.specs.Rows.{side_of}
use Rattle.terms.specs.contracts.row.SidePartialEq.TheImpl.{eq-value}
use Rattle.sets.specs.Bits.{flip, alike}
use Rattle.sets.specs.Sets.{has}
use Rattle.sets.proofs.Sets.{has_meet, has_below}
use Rattle.meaning.specs.Meaning.{Meaning, qubits}
use Rattle.meaning.specs.Telling.{side, within_range}
use Rattle.rules.specs.Clusters.{same_side, other_side}
use Rattle.rules.specs.States.{State}
use Rattle.rules.proofs.Cluster.{has_map_in}

module _ (M : Meaning) (s : State) (long : length s.erased ≡ qubits M) (q j : ℕ) where
  pub beside_not : has s.erased j ≡ false → has (same_side M s q) j ≡ false
  beside_not e = has_meet s.erased (map (alike (has M.sides q)) M.sides) j ∙ ap (λ b. b && has (map (alike (has M.sides q)) M.sides) j) e

  pub across_not : has s.erased j ≡ false → has (other_side M s q) j ≡ false
  across_not e = has_meet s.erased (map (flip (has M.sides q)) M.sides) j ∙ ap (λ b. b && has (map (flip (has M.sides q)) M.sides) j) e

  pub beside_is : has s.erased j ≡ true → has (same_side M s q) j ≡ alike (has M.sides q) (has M.sides j)
  beside_is e =
      let h : j < length s.erased = has_below s.erased j e in
      let k : j < length M.sides = omega (arith, long) in
      has_meet s.erased (map (alike (has M.sides q)) M.sides) j ∙ ap (λ b. b && has (map (alike (has M.sides q)) M.sides) j) e ∙ has_map_in (alike (has M.sides q)) M.sides j k

  pub across_is : has s.erased j ≡ true → has (other_side M s q) j ≡ flip (has M.sides q) (has M.sides j)
  across_is e =
      let h : j < length s.erased = has_below s.erased j e in
      let k : j < length M.sides = omega (arith, long) in
      has_meet s.erased (map (flip (has M.sides q)) M.sides) j ∙ ap (λ b. b && has (map (flip (has M.sides q)) M.sides) j) e ∙ has_map_in (flip (has M.sides q)) M.sides j k

  erased_low : has s.erased j ≡ true → j < qubits M
  erased_low e = omega (arith, has_below s.erased j e, long)

  -- two sides told are equal exactly if they are alike
  pub sides_alike : has s.erased j ≡ true → q < qubits M → option_eq eq-value.it (side M j) (side M q) ≡ alike (has M.sides q) (has M.sides j)
  sides_alike e low =
      ap (λ b. option_eq eq-value.it (within_range b (side_of (has M.sides j))) (side M q)) (lt-ltb j (qubits M) (erased_low e))
      ∙ ap (λ b. option_eq eq-value.it (Some (side_of (has M.sides j))) (within_range b (side_of (has M.sides q)))) (lt-ltb q (qubits M) low)
      ∙ four (has M.sides j) (has M.sides q)
    where
      four : (a b : Bool) → option_eq eq-value.it (Some (side_of a)) (Some (side_of b)) ≡ alike b a
      four true true = refl
      four true false = refl
      four false true = refl
      four false false = refl

  pub unlike : (a b : Bool) → not (alike a b) ≡ flip a b
  unlike true b = refl
  unlike false true = refl
  unlike false false = refl
