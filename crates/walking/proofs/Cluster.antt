-- What is true once a walk is over: the members are the cluster, and the checks met are those of the cluster.
use Rattle.std.proofs.Common.{◌≡◌, ℕ, ◌<◌, ◌≤◌, Bool, true, false, cond, not, ◌&&◌, ltb, ◌⊎◌, List, [], ◌∷◌, length, vec_items, sym, refl, ap, ◌∙◌, subst, inl, inr, arith, ltb-true, ltb-false}
use Rattle.std.proofs.lemmas.Bool.{cases_Bool, and_parts, and_from, not-true, not_from_false, false_from_ne_true}
use Rattle.std.proofs.lemmas.List.{length-map, get_or_past}
use Rattle.sets.specs.Lists.{In, Distinct}
use Rattle.sets.specs.Sets.{has, row, size, lowest, meets, holders, among}
use Rattle.sets.proofs.Bits.{clash, same}
use Rattle.sets.proofs.Numbers.{in_among, among_in, distinct_repeats, told_once}
use Rattle.sets.proofs.Sets.{has_meet, has_less, has_holders, has_any}
use Rattle.sets.proofs.Sizes.{lowest_has}
use Rattle.meaning.specs.Meaning.{Meaning, Sound, qubits}
use Rattle.rules.specs.Clusters.{other_side, touched, cluster, connecting, internal, Reached, itself, onward}
use Rattle.rules.specs.States.{State}
use Rattle.rules.proofs.Cluster.{is_touched, of_touched}
use Rattle.rules.proofs.Reached.{cluster_reached}
use Rattle.upkeep.specs.Changed.{changed}
use Rattle.upkeep.proofs.Changed.{length_changed, changed_at}
use Rattle.marks.specs.Marks.{is_marked}
use Rattle.walking.specs.Found.{by_number, told, listed}
use Rattle.walking.specs.Scenes.{code_of, state_of, Ended}
use Rattle.walking.specs.declared.scene.Scene.{Scene}
use Rattle.marks.specs.declared.Marks.{Marks}
use Rattle.table.specs.Stands.{table_sound}
use Rattle.upkeep.specs.Statuses.{is_erased}
use Rattle.walking.specs.declared.ground.Ground.{Ground}
use Rattle.walking.proofs.Walking.{reached_beside}

module _ (v : Scene) (k : Marks) (g : Ground) (o : Ended v k g) where
  abbrev M : Meaning
  M = code_of v

  abbrev s : State
  s = state_of v

  abbrev q : ℕ
  q = v.start

  abbrev n : ℕ
  n = k.qubits

  abbrev m : List ℕ
  m = k.scratch.now

  sound : Sound M
  sound = table_sound v.table.now

  long : length s.erased ≡ qubits M
  long = length-map v.status.now is_erased ∙ v.statuses

  on : has s.erased q ≡ true
  on = v.erased

  member : (k : ℕ) → is_marked n m k ≡ true → In k (vec_items g.members)
  member k e = elim (o.walk.qubits.listed k e) [ inl a ↦ a | inr b ↦ absurd (subst (λ (x : List ℕ). In k x) o.empty b) ]

  reached_marked : (k : ℕ) → Reached M s q k → is_marked n m k ≡ true
  reached_marked k itself = o.first
  reached_marked j (onward {i = i} r t) =
      let met : has (vec_items g.met) t.check ≡ true = o.visited i (member i (reached_marked i r)) t.check t.is_open t.holds_i in
      o.walk.checks.swept t.check met j t.holds_j (reached_beside v j (onward r t))

  marked_in : (k : ℕ) → is_marked n m k ≡ true → has (cluster M s q) k ≡ true
  marked_in k e = (cluster_reached M sound s long q on k).1 (o.walk.qubits.reached k e)

  pub member_in : (k : ℕ) → In k (vec_items g.members) → has (cluster M s q) k ≡ true
  member_in k i = marked_in k (o.walk.qubits.member k i)

  pub in_member : (k : ℕ) → has (cluster M s q) k ≡ true → In k (vec_items g.members)
  in_member k e = member k (reached_marked k ((cluster_reached M sound s long q on k).0 e))

  abbrev K : List Bool
  K = cluster M s q

  touched_met : (d : ℕ) → has (touched M s K) d ≡ true → has (vec_items g.met) d ≡ true
  touched_met d e = let t = of_touched M sound s long K d e in o.visited t.1 (in_member t.1 t.3) d t.0 t.2

  met_touched : (d : ℕ) → has (vec_items g.met) d ≡ true → has (touched M s K) d ≡ true
  met_touched d e = let t = o.walk.checks.touched d e in is_touched M sound s long K d t.qubit t.is_open t.holds (marked_in t.qubit t.is_in)

  connects : (d : ℕ) → has (connecting M s q K) d ≡ (has (touched M s K) d && meets (row M.checks d) (other_side M s q))
  connects d = has_meet (touched M s K) (holders M.checks (other_side M s q)) d ∙ ap (λ b. has (touched M s K) d && b) (has_holders M.checks (other_side M s q) d)

  pub connecting_in : (d : ℕ) → In d (vec_items g.connecting) → has (connecting M s q K) d ≡ true
  connecting_in d i = let r = o.walk.checks.connecting d i in connects d ∙ and_from (has (touched M s K) d) (meets (row M.checks d) (other_side M s q)) (met_touched d r.0) r.1

  pub in_connecting : (d : ℕ) → has (connecting M s q K) d ≡ true → In d (vec_items g.connecting)
  in_connecting d e =
      let r = and_parts (has (touched M s K) d) (meets (row M.checks d) (other_side M s q)) (sym (connects d) ∙ e) in
      elim (o.walk.checks.listed d (touched_met d r.0)) [ inl a ↦ absurd (clash r.1 (o.walk.checks.internal d a).1) | inr b ↦ b ]

  inner : (d : ℕ) → has (internal M s q K) d ≡ (has (touched M s K) d && not (has (connecting M s q K) d))
  inner d = has_less (touched M s K) (connecting M s q K) d

  pub internal_in : (d : ℕ) → In d (vec_items g.internal) → has (internal M s q K) d ≡ true
  internal_in d i =
      let r = o.walk.checks.internal d i in
      let none : has (connecting M s q K) d ≡ false = false_from_ne_true (has (connecting M s q K) d) (λ e. clash (and_parts (has (touched M s K) d) (meets (row M.checks d) (other_side M s q)) (sym (connects d) ∙ e)).1 r.1) in
      inner d ∙ and_from (has (touched M s K) d) (not (has (connecting M s q K) d)) (met_touched d r.0) (not_from_false (has (connecting M s q K) d) none)

  pub in_internal : (d : ℕ) → has (internal M s q K) d ≡ true → In d (vec_items g.internal)
  in_internal d e =
      let r = and_parts (has (touched M s K) d) (not (has (connecting M s q K) d)) (sym (inner d) ∙ e) in
      elim (o.walk.checks.listed d (touched_met d r.0)) [ inl a ↦ a | inr b ↦ absurd (clash (connecting_in d b) (not-true (has (connecting M s q K) d) r.1)) ]

-- what a list of distinct numbers tells is what its set tells
pub listed_told : (m : List Bool) (l : List ℕ) → Distinct l → ((d : ℕ) → In d l → has m d ≡ true) → ((d : ℕ) → has m d ≡ true → In d l) → listed l ≡ told m
listed_told m l once to from = ap (λ t. t) (go l refl)
  where
    long : length l ≡ size m
    long = told_once l m (distinct_repeats l once) (λ k. same (among k l) (has m k) (λ e. to k (among_in k l e)) (λ e. in_among k l (from k e)))

    go : (x : List ℕ) → x ≡ l → listed l ≡ told m
    go [] e = ap listed (sym e) ∙ ap (λ k. by_number k (lowest m)) (ap length e ∙ long)
    go (c ∷ []) e =
        let c_in : In c l = subst (λ (x : List ℕ). In c x) e (inl refl) in
        let low : has m (lowest m) ≡ true = lowest_has m (has_any m c (to c c_in)) in
        let only : lowest m ≡ c = elim (subst (λ (x : List ℕ). In (lowest m) x) (sym e) (from (lowest m) low)) [ inl p ↦ p | inr n ↦ absurd n ] in
        ap listed (sym e) ∙ ap (λ k. by_number 1 k) (sym only) ∙ ap (λ k. by_number k (lowest m)) (ap length e ∙ long)
    go (c ∷ d ∷ r) e = ap listed (sym e) ∙ ap (λ k. by_number k (lowest m)) (ap length e ∙ long)

-- the marks of the checks are gone once those that are listed are taken back
none_left : (b : Bool) → cond b false false ≡ false
none_left true = refl
none_left false = refl

pub unmarked : (met : List Bool) (I C : List ℕ) → Distinct I → Distinct C → ((d : ℕ) → has met d ≡ true → In d I ⊎ In d C) → (d : ℕ) → has (changed false (λ _. false) C (changed false (λ _. false) I met)) d ≡ false
unmarked met I C di dc found d = go (ltb d (length met)) refl
  where
    x1 : List Bool
    x1 = changed false (λ _. false) I met

    go : (b : Bool) → ltb d (length met) ≡ b → has (changed false (λ _. false) C (changed false (λ _. false) I met)) d ≡ false
    go false e =
        let h : length met ≤ d = ltb-false d (length met) e in
        get_or_past (changed false (λ _. false) C (changed false (λ _. false) I met)) d false (omega (arith, h, length_changed false (λ (_ : Bool). false) C (changed false (λ _. false) I met), length_changed false (λ (_ : Bool). false) I met))
    go true e =
        let h : d < length met = ltb-true d (length met) e in
        let a = changed_at false (λ (_ : Bool). false) I met di d h in
        let h' : d < length (changed false (λ (_ : Bool). false) I met) = omega (arith, h, length_changed false (λ (_ : Bool). false) I met) in
        let b = changed_at false (λ (_ : Bool). false) C (changed false (λ _. false) I met) dc d h' in
        b ∙ by (cases_Bool (has met d)) a
      where
        by : (has met d ≡ true) ⊎ (has met d ≡ false) → has (changed false (λ _. false) I met) d ≡ cond (among d I) false (has met d) → cond (among d C) false (has (changed false (λ _. false) I met) d) ≡ false
        by (inl t) a = elim (found d t) [
          | inl i ↦ ap (cond (among d C) false) (a ∙ ap (λ x. cond x false (has met d)) (in_among d I i)) ∙ none_left (among d C)
          | inr i ↦ ap (λ x. cond x false (has (changed false (λ _. false) I met) d)) (in_among d C i)
        ]
        by (inr f) a = ap (cond (among d C) false) (a ∙ ap (cond (among d I) false) f ∙ none_left (among d I)) ∙ none_left (among d C)
