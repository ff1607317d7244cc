-- A cluster is what is reached by touching.
use Rattle.std.proofs.Common.{◌≡◌, ℕ, suc, ◌<◌, Bool, true, false, cond, ◌⊎◌, List, [], ◌∷◌, map, length, drop, sym, refl, ◌∙◌, subst, inl, inr, arith}
use Rattle.std.proofs.lemmas.Bool.{and_parts, and_from, or_cases}
use mathlib.Core.Bool.{false≢true}
use Rattle.sets.specs.Bits.{alike}
use Rattle.sets.specs.Sets.{has, row, meet, only}
use Rattle.sets.proofs.Bits.{alike_same, same_alike}
use Rattle.sets.proofs.Sets.{has_join, has_meet, has_below, only_other}
use Rattle.meaning.specs.Meaning.{Meaning, Sound, qubits}
use Rattle.rules.specs.States.{State}
use Rattle.rules.specs.Clusters.{same_side, touched, spanned, grown, cluster, Reached, itself, onward}
use Rattle.rules.specs.Companions.{ClusterReached}
use Rattle.rules.proofs.Solutions.{has_drop}
use Rattle.rules.proofs.Cluster.{has_map_in, again_keeps, is_touched, of_touched, side_erased, self_side, start_has, step_more, cluster_side, cluster_closed}

of_spanned : (C : List (List Bool)) (A : List Bool) (i : ℕ) → has (spanned C A) i ≡ true → (d : ℕ) × (has A d ≡ true) × (has (row C d) i ≡ true)
of_spanned [] A i e = absurd (false≢true e)
of_spanned (c ∷ C) A i e = go (or_cases (has (cond (has A 0) c []) i) (has (spanned C (drop 1 A)) i) (sym (has_join (cond (has A 0) c []) (spanned C (drop 1 A)) i) ∙ e)) (of_spanned C (drop 1 A) i)
  where
    here : (b : Bool) → has (cond b c []) i ≡ true → (b ≡ true) × (has c i ≡ true)
    here true p = (refl, p)
    here false p = absurd (false≢true p)

    go : (has (cond (has A 0) c []) i ≡ true) ⊎ (has (spanned C (drop 1 A)) i ≡ true) → (has (spanned C (drop 1 A)) i ≡ true → (d : ℕ) × (has (drop 1 A) d ≡ true) × (has (row C d) i ≡ true)) → (d : ℕ) × (has A d ≡ true) × (has (row (c ∷ C) d) i ≡ true)
    go (inl p) ih = let r = here (has A 0) p in (0, r.0, r.1)
    go (inr p) ih = let r = ih p in (suc r.0, sym (has_drop A r.0) ∙ r.1, r.2)

module _ (M : Meaning) (sound : Sound M) (s : State) (long : length s.erased ≡ qubits M) (q : ℕ) (on : has s.erased q ≡ true) where
  side_is : (i : ℕ) → has (same_side M s q) i ≡ true → has M.sides q ≡ has M.sides i
  side_is i e =
      let b = and_parts (has s.erased i) (has (map (alike (has M.sides q)) M.sides) i) (sym (has_meet s.erased (map (alike (has M.sides q)) M.sides) i) ∙ e) in
      let h : i < length s.erased = has_below s.erased i b.0 in
      let k : i < length M.sides = omega (arith, long) in
      alike_same (has M.sides q) (has M.sides i) (sym (has_map_in (alike (has M.sides q)) M.sides i k) ∙ b.1)

  is_side : (i : ℕ) → has s.erased i ≡ true → has M.sides q ≡ has M.sides i → has (same_side M s q) i ≡ true
  is_side i e o =
      let h : i < length s.erased = has_below s.erased i e in
      let k : i < length M.sides = omega (arith, long) in
      has_meet s.erased (map (alike (has M.sides q)) M.sides) i ∙ and_from _ _ e (has_map_in (alike (has M.sides q)) M.sides i k ∙ same_alike (has M.sides q) (has M.sides i) o)

  abbrev All : List Bool → Type 0
  All y = (i : ℕ) → has y i ≡ true → (has (same_side M s q) i ≡ true) × Reached M s q i

  all_grown : (y : List Bool) → All y → All (grown M s (same_side M s q) y)
  all_grown y h i e = go (or_cases (has y i) (has (meet (same_side M s q) (spanned M.checks (touched M s y))) i) (sym (has_join y (meet (same_side M s q) (spanned M.checks (touched M s y))) i) ∙ e))
    where
      go : (has y i ≡ true) ⊎ (has (meet (same_side M s q) (spanned M.checks (touched M s y))) i ≡ true) → (has (same_side M s q) i ≡ true) × Reached M s q i
      go (inl p) = h i p
      go (inr p) =
          let b = and_parts (has (same_side M s q) i) (has (spanned M.checks (touched M s y)) i) (sym (has_meet (same_side M s q) (spanned M.checks (touched M s y)) i) ∙ p) in
          let d = of_spanned M.checks (touched M s y) i b.1 in
          let t = of_touched M sound s long y d.0 d.1 in
          let r = h t.1 t.3 in (
            b.0,
            onward r.1 (record {
              erased_i = side_erased M sound s long q on t.1 r.0;
              erased_j = side_erased M sound s long q on i b.0;
              one_side = sym (side_is t.1 r.0) ∙ side_is i b.0;
              check = d.0;
              is_open = t.0;
              holds_i = t.2;
              holds_j = d.2;
            }),
          )

  all_start : All (only (qubits M) q)
  all_start i e = let g : q ≡ i = sym (only_other (qubits M) q i e) in (subst (λ (j : ℕ). has (same_side M s q) j ≡ true) g (self_side M sound s long q on), subst (Reached M s q) g itself)

  reached_in : (i : ℕ) → Reached M s q i → has (cluster M s q) i ≡ true
  reached_in i itself = again_keeps (λ y. has y q ≡ true) (grown M s (same_side M s q)) (λ y e. step_more M sound s long q on y q e) (qubits M) (only (qubits M) q) (start_has M sound s long q on)
  reached_in j (onward {i = i} r t) =
      let e : has (cluster M s q) i ≡ true = reached_in i r in
      cluster_closed M sound s long q on t.check j (is_touched M sound s long (cluster M s q) t.check i t.is_open t.holds_i e) t.holds_j
      (is_side j t.erased_j (side_is i (cluster_side M sound s long q on i e) ∙ t.one_side))

  in_reached : (i : ℕ) → has (cluster M s q) i ≡ true → Reached M s q i
  in_reached i e = (again_keeps All (grown M s (same_side M s q)) all_grown (qubits M) (only (qubits M) q) all_start i e).1

pub cluster_reached : ClusterReached
cluster_reached M sound s long q on i = (in_reached M sound s long q on i, reached_in M sound s long q on i)
