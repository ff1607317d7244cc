-- A solve is refused with 24 or 25 at all qubits of a cluster or at none.
use Rattle.std.proofs.Common.{◌≡◌, ℕ, Bool, true, false, cond, not, eqb, ltb, List, [], ◌∷◌, map, length, Ok, Err, Result, sym, refl, ap, ◌∙◌, inl, inr, arith, lt-ltb}
use Rattle.terms.specs.declared.refusal.Refusal.{Refusal}
use Rattle.terms.specs.declared.refusal.Refusal.TheVariants.{QubitTooLarge, NothingErased, SeveralConnecting, TooManyUnknowns, WrongSlip}
use Rattle.terms.specs.Refusals.{number}
use Rattle.sets.specs.Bits.{flip}
use Rattle.sets.specs.Sets.{has, meet, less, size, lowest, holders}
use Rattle.sets.proofs.Bits.{same, clash}
use Rattle.sets.proofs.Sets.{has_below, ext}
use Rattle.meaning.specs.Meaning.{Meaning, Sound, qubits}
use Rattle.rules.specs.declared.answers.Cluster.{Cluster}
use Rattle.rules.specs.declared.answers.Cluster.TheVariants.{Shelved, Flipped}
use Rattle.rules.specs.States.{State, shelve}
use Rattle.rules.specs.Clusters.{other_side, touched, cluster, connecting, internal, free, Touch, Reached, itself, onward}
use Rattle.rules.specs.Refusing.{Bar, bar, unless, is_void, too_short, in_use}
use Rattle.rules.specs.Systems.{solutions}
use Rattle.rules.specs.Calls.{choose, solve_bars, solve_found, solve_trial, solve}
use Rattle.rules.specs.Companions.{KeptOrVoid}
use Rattle.rules.specs.Run.{is24or25, passed_over}
use Rattle.rules.proofs.Cluster.{cluster_long}
use Rattle.rules.proofs.Reached.{cluster_reached}
use Rattle.rules.proofs.Refused.{refusals_keep}

module _ (M : Meaning) (s : State) where
  back : {i j : ℕ} → Touch M s i j → Touch M s j i
  back t = record { erased_i = t.erased_j; erased_j = t.erased_i; one_side = sym t.one_side; check = t.check; is_open = t.is_open; holds_i = t.holds_j; holds_j = t.holds_i }

  through : {i j k : ℕ} → Reached M s i j → Reached M s j k → Reached M s i k
  through r itself = r
  through r (onward q t) = onward (through r q) t

  reversed : {i j : ℕ} → Reached M s i j → Reached M s j i
  reversed itself = itself
  reversed (onward r t) = through (onward itself (back t)) (reversed r)

  reached_erased : {q : ℕ} → has s.erased q ≡ true → (j : ℕ) → Reached M s q j → has s.erased j ≡ true
  reached_erased on j itself = on
  reached_erased on j (onward r t) = t.erased_j

  reached_side : {q : ℕ} (j : ℕ) → Reached M s q j → has M.sides q ≡ has M.sides j
  reached_side j itself = refl
  reached_side j (onward {i = i} r t) = reached_side i r ∙ t.one_side

  -- what a solve does at a qubit, by whether it is one of the code, whether it is erased, its cluster and the cluster's checks
  abbrev done_by : ℕ → List ℕ → (a b : Bool) (k c n : List Bool) → Result Cluster Refusal × State
  done_by slip scratch a b k c n =
      unless (bar (not a) QubitTooLarge ∷ too_short M scratch ∷ in_use M scratch ∷ is_void s ∷ bar (not b) NothingErased ∷ bar (ltb 1 (size c)) SeveralConnecting ∷ bar (ltb 256 (size k)) TooManyUnknowns ∷ []) s
      (solve_found M s slip k c (free M s k c) (solutions M.checks k n s.odds))

  module _ (sound : Sound M) (long : length s.erased ≡ qubits M) (q : ℕ) (on : has s.erased q ≡ true) (j : ℕ) (here : has (cluster M s q) j ≡ true) where
    reached : Reached M s q j
    reached = (cluster_reached M sound s long q on j).0 here

    pub member_erased : has s.erased j ≡ true
    member_erased = reached_erased on j reached

    one_cluster : cluster M s j ≡ cluster M s q
    one_cluster =
        ext (cluster M s j) (cluster M s q) (cluster_long M sound s long j member_erased ∙ sym (cluster_long M sound s long q on)) (λ i.
        same (has (cluster M s j) i) (has (cluster M s q) i)
        (λ e. (cluster_reached M sound s long q on i).1 (through reached ((cluster_reached M sound s long j member_erased i).0 e)))
        (λ e. (cluster_reached M sound s long j member_erased i).1 (through (reversed reached) ((cluster_reached M sound s long q on i).0 e))))

    module _ (slip : ℕ) (scratch : List ℕ) where
      -- a solve does the same at each of its qubits
      pub one_solve : solve_trial M s slip j scratch ≡ solve_trial M s slip q scratch
      one_solve =
          let low : (i : ℕ) → has s.erased i ≡ true → ltb i (qubits M) ≡ true = λ i e. lt-ltb i (qubits M) (omega (arith, has_below s.erased i e, long)) in
          let a = low j member_erased ∙ sym (low q on) in
          let b = member_erased ∙ sym on in
          let k = one_cluster in
          let o : other_side M s j ≡ other_side M s q = ap (λ x. meet s.erased (map (flip x) M.sides)) (sym (reached_side j reached)) in
          let c : connecting M s j (cluster M s j) ≡ connecting M s q (cluster M s q) = λ i. meet (touched M s (k i)) (holders M.checks (o i)) in
          let n : internal M s j (cluster M s j) ≡ internal M s q (cluster M s q) = λ i. less (touched M s (k i)) (c i) in
          λ i. done_by slip scratch (a i) (b i) (k i) (c i) (n i)

  -- a refusal with 24 or 25 does not look at the slip
  one_test : {A : Type 0} (bars : List Bar) (a b : Result A Refusal × State) → passed_over a.0 ≡ passed_over b.0 → passed_over (unless bars s a).0 ≡ passed_over (unless bars s b).0
  one_test [] a b e = e
  one_test (x ∷ bars) a b e = go x.holds (one_test bars a b e)
    where
      go : (t : Bool) → passed_over (unless bars s a).0 ≡ passed_over (unless bars s b).0 → passed_over (cond t (Err x.says, s) (unless bars s a)).0 ≡ passed_over (cond t (Err x.says, s) (unless bars s b)).0
      go true ih = refl
      go false ih = ih

  pub found_passes : (slip : ℕ) (k c : List Bool) (f : Bool) (found : List (List Bool)) → passed_over (solve_found M s slip k c f found).0 ≡ false
  found_passes slip k c f [] = refl
  found_passes slip k c true (z ∷ found) = go (not (eqb slip s.number))
    where
      go : (t : Bool) → passed_over (cond {A = Result Cluster Refusal × State} t (Err WrongSlip, s) (Ok Shelved, shelve k (lowest c) s)).0 ≡ false
      go true = refl
      go false = refl
  found_passes slip k c false (z ∷ found) = go (not (eqb slip s.number))
    where
      go : (t : Bool) → passed_over (cond {A = Result Cluster Refusal × State} t (Err WrongSlip, s) (Ok Flipped, choose M k z (z ∷ found) s)).0 ≡ false
      go true = refl
      go false = refl

  pub any_slip : (slip q : ℕ) (scratch : List ℕ) → passed_over (solve M s slip q scratch).0 ≡ passed_over (solve M s s.number q scratch).0
  any_slip slip q scratch =
      let k : List Bool = cluster M s q in
      let c : List Bool = connecting M s q k in
      let found : List (List Bool) = solutions M.checks k (internal M s q k) s.odds in
      one_test (solve_bars M s q scratch k c) (solve_found M s slip k c (free M s k c) found) (solve_found M s s.number k c (free M s k c) found)
      (found_passes slip k c (free M s k c) found ∙ sym (found_passes s.number k c (free M s k c) found))

  -- one that is refused so changes nothing
  pub passed_kept : (slip q : ℕ) (scratch : List ℕ) → passed_over (solve M s slip q scratch).0 ≡ true → (solve M s slip q scratch).1 ≡ s
  passed_kept slip q scratch = go (solve M s slip q scratch).0 (solve M s slip q scratch).1 ((refusals_keep M s).solve_kept slip q scratch)
    where
      go : (r : Result Cluster Refusal) (t : State) → KeptOrVoid s (r, t) → passed_over r ≡ true → t ≡ s
      go (Ok c) t h e = absurd (clash e refl)
      go (Err f) t (inl x) e = x
      go (Err f) t (inr x) e = absurd (clash e (ap (λ r. is24or25 (number r)) x.0))
