-- The steps of a walk keep what is true of it.
use Rattle.std.proofs.Common.{◌≡◌, ℕ, ◌<◌, Bool, true, false, eqb, ◌⊎◌, List, [], ◌∷◌, ◌++◌, length, set, vec_items, vec_capacity, sym, refl, ap, ◌∙◌, subst, inl, inr, arith, length-set, length-append, eqb-true}
use borrow.Author.Tests.{eqb-false}
use Rattle.std.proofs.lemmas.List.{length-map, get_or-set_same, get_or-set_other}
use Rattle.sets.specs.Lists.{In, Distinct}
use Rattle.sets.specs.Sets.{has, row, meets}
use Rattle.sets.proofs.Bits.{clash, alike_same}
use Rattle.meaning.specs.Meaning.{Meaning, Sound, qubits}
use Rattle.rules.specs.Clusters.{same_side, other_side, Reached, onward}
use Rattle.rules.specs.States.{State}
use Rattle.rules.proofs.Cluster.{cluster_side, side_erased}
use Rattle.rules.proofs.Reached.{cluster_reached}
use Rattle.marks.specs.Marks.{is_marked, with_mark}
use Rattle.walking.specs.Steps.{Marked, Touched, Walk, Onward, Rested, Unmarked, Bare}
use Rattle.walking.specs.Waiting.{Waiting}
use Rattle.walking.specs.declared.ground.Ground.{Ground}
use Rattle.walking.proofs.Scratch.{marked_low, mark_long, mark_beyond, mark_new, mark_old, mark_cases}
use Rattle.walking.proofs.Sides.{beside_is}
use Rattle.walking.proofs.Ends.{few, check_low, one_more, old_in, new_in, more_once, front_once}
use Rattle.walking.specs.Scenes.{code_of, state_of}
use Rattle.walking.specs.declared.scene.Scene.{Scene}
use Rattle.table.specs.Stands.{table_sound}
use Rattle.upkeep.specs.Statuses.{is_erased}

module _ (v : Scene) where
  abbrev M : Meaning
  M = code_of v

  abbrev s : State
  s = state_of v

  abbrev q : ℕ
  q = v.start

  sound : Sound M
  sound = table_sound v.table.now

  long : length s.erased ≡ qubits M
  long = length-map v.status.now is_erased ∙ v.statuses

  on : has s.erased q ≡ true
  on = v.erased

  pub reached_beside : (k : ℕ) → Reached M s q k → has (same_side M s q) k ≡ true
  reached_beside k r = cluster_side M sound s long q on k ((cluster_reached M sound s long q on k).1 r)

  pub reached_erased : (k : ℕ) → Reached M s q k → has s.erased k ≡ true
  reached_erased k r = side_erased M sound s long q on k (reached_beside k r)

  one_side : (k : ℕ) → has (same_side M s q) k ≡ true → has M.sides q ≡ has M.sides k
  one_side k e = alike_same (has M.sides q) (has M.sides k) (sym (beside_is M s long q k (side_erased M sound s long q on k e)) ∙ e)

  -- a qubit of the side that an open check holds together with one that is reached
  pub reached_more : (n : ℕ) (m : List ℕ) (g : Ground) → Walk M s q n m g → (c : ℕ) → Touched M s n m c → (j : ℕ) → has (row M.checks c) j ≡ true → has (same_side M s q) j ≡ true → Reached M s q j
  reached_more n m g w c t j held there =
      let r = w.qubits.reached t.qubit t.is_in in
      onward r (record {
        erased_i = reached_erased t.qubit r;
        erased_j = side_erased M sound s long q on j there;
        one_side = sym (one_side t.qubit (reached_beside t.qubit r)) ∙ one_side j there;
        check = c;
        is_open = t.is_open;
        holds_i = t.holds;
        holds_j = held;
      })

  -- before the first step
  pub begun : (n : ℕ) (m : List ℕ) (g : Ground) → Rested M g → Bare g → Unmarked M n m → Walk M s q n m g
  begun n m g r b u =
      let none : (l : List ℕ) → l ≡ [] → (k : ℕ) → In k l → ⊥ = λ l e k i. subst (λ (x : List ℕ). In k x) e i in
      let once : (l : List ℕ) → l ≡ [] → Distinct l = λ l e. subst (λ (x : List ℕ). Distinct x) (sym e) tt in
      record {
        roomy = record { all = u.all; marks = u.long; pending = r.pending ∙ sym u.all; members = omega (arith, r.members, u.all); internal = r.internal; connecting = r.connecting; met = r.met };
        qubits = record {
          listed = λ k e. absurd (clash e (u.unmarked k));
          member = λ k i. absurd (none _ b.members k i);
          waits = λ k i. absurd (none _ r.empty k i);
          members_once = once _ b.members;
          pending_once = once _ r.empty;
          apart = λ k i j. none _ b.members k i;
          reached = λ k e. absurd (clash e (u.unmarked k));
        };
        checks = record {
          listed = λ d e. absurd (clash e (r.unmet d));
          internal = λ d i. absurd (none _ b.internal d i);
          connecting = λ d i. absurd (none _ b.connecting d i);
          internal_once = once _ b.internal;
          connecting_once = once _ b.connecting;
          touched = λ d e. absurd (clash e (r.unmet d));
          swept = λ d e. absurd (clash e (r.unmet d));
        };
      }

  -- there is room for one more qubit that is not marked yet
  pub pending_space : (n : ℕ) (m : List ℕ) (g : Ground) → Walk M s q n m g → (j : ℕ) → j < n → is_marked n m j ≡ false → length g.pending.list < g.pending.room
  pending_space n m g w j low free =
      let L = g.pending.list in
      let all : Distinct (L ++ j ∷ []) = more_once j L _ refl w.qubits.pending_once (λ i. clash (w.qubits.waits j i) free) in
      omega (arith, length-append L (j ∷ []), w.roomy.pending, few n (L ++ j ∷ []) all (λ k i. elim (one_more k j L _ refl i) [ inl a ↦ marked_low n m k (w.qubits.waits k a) | inr p ↦ omega arith ]))

  pub members_space : (n : ℕ) (m : List ℕ) (g : Ground) → Walk M s q n m g → (i : ℕ) → In i g.pending.list → length (vec_items g.members) < n
  members_space n m g w j i =
      let L = vec_items g.members in
      let all : Distinct (L ++ j ∷ []) = more_once j L _ refl w.qubits.members_once (λ h. w.qubits.apart j h i) in
      omega (arith, length-append L (j ∷ []), few n (L ++ j ∷ []) all (λ k h. elim (one_more k j L _ refl h) [ inl a ↦ marked_low n m k (w.qubits.member k a) | inr p ↦ subst (λ (x : ℕ). x < n) (sym p) (marked_low n m j (w.qubits.waits j i)) ]))

  checks_space : (n : ℕ) (m : List ℕ) (g : Ground) → Walk M s q n m g → (L : List ℕ) → Distinct L → ((d : ℕ) → In d L → has (vec_items g.met) d ≡ true) → (c i : ℕ) → has (row M.checks c) i ≡ true → has (vec_items g.met) c ≡ false → length L < length M.checks
  checks_space n m g w L once met c i held fresh =
      let all : Distinct (L ++ c ∷ []) = more_once c L _ refl once (λ h. clash (met c h) fresh) in
      omega (arith, length-append L (c ∷ []), few (length M.checks) (L ++ c ∷ []) all (λ d h. elim (one_more d c L _ refl h) [ inl a ↦ (let t = w.checks.touched d (met d a) in check_low M.checks d t.qubit t.holds) | inr p ↦ subst (λ (x : ℕ). x < length M.checks) (sym p) (check_low M.checks c i held) ]))

  pub internal_space : (n : ℕ) (m : List ℕ) (g : Ground) → Walk M s q n m g → (c i : ℕ) → has (row M.checks c) i ≡ true → has (vec_items g.met) c ≡ false → length (vec_items g.internal) < length M.checks
  internal_space n m g w = checks_space n m g w (vec_items g.internal) w.checks.internal_once (λ d h. (w.checks.internal d h).0)

  pub connecting_space : (n : ℕ) (m : List ℕ) (g : Ground) → Walk M s q n m g → (c i : ℕ) → has (row M.checks c) i ≡ true → has (vec_items g.met) c ≡ false → length (vec_items g.connecting) < length M.checks
  connecting_space n m g w = checks_space n m g w (vec_items g.connecting) w.checks.connecting_once (λ d h. (w.checks.connecting d h).0)

  -- a qubit that is reached and not yet marked is marked, and waits
  module _ (n : ℕ) (m : List ℕ) (g : Ground) (w : Walk M s q n m g) (j : ℕ) (r : Reached M s q j) (low : j < n) (free : is_marked n m j ≡ false) (p : Waiting) (room : p.room ≡ g.pending.room) (list : p.list ≡ g.pending.list ++ j ∷ []) where
    old : (k : ℕ) → is_marked n m k ≡ true → is_marked n (with_mark n m j) k ≡ true
    old = mark_old n m w.roomy.marks j low

    took_here : Walk M s q n (with_mark n m j) (record g { pending = p })
    took_here = record {
      roomy = record {
        all = w.roomy.all;
        marks = omega (arith, w.roomy.marks, mark_long n m w.roomy.marks j low);
        pending = room ∙ w.roomy.pending;
        members = w.roomy.members;
        internal = w.roomy.internal;
        connecting = w.roomy.connecting;
        met = w.roomy.met;
      };
      qubits = record {
        listed = λ k e. elim (mark_cases n m w.roomy.marks j low k e) [ inl a ↦ elim (w.qubits.listed k a) [ inl h ↦ inl h | inr h ↦ inr (old_in k j g.pending.list p.list list h) ] | inr h ↦ inr (new_in k j g.pending.list p.list list h) ];
        member = λ k h. old k (w.qubits.member k h);
        waits = λ k h. elim (one_more k j g.pending.list p.list list h) [ inl a ↦ old k (w.qubits.waits k a) | inr e ↦ subst (λ (x : ℕ). is_marked n (with_mark n m j) x ≡ true) (sym e) (mark_new n m w.roomy.marks j low) ];
        members_once = w.qubits.members_once;
        pending_once = more_once j g.pending.list p.list list w.qubits.pending_once (λ h. clash (w.qubits.waits j h) free);
        apart = λ k a h. elim (one_more k j g.pending.list p.list list h) [ inl b ↦ w.qubits.apart k a b | inr e ↦ clash (w.qubits.member j (subst (λ (x : ℕ). In x (vec_items g.members)) e a)) free ];
        reached = λ k e. elim (mark_cases n m w.roomy.marks j low k e) [ inl a ↦ w.qubits.reached k a | inr h ↦ subst (λ (x : ℕ). Reached M s q x) (sym h) r ];
      };
      checks = record {
        listed = w.checks.listed;
        internal = w.checks.internal;
        connecting = w.checks.connecting;
        internal_once = w.checks.internal_once;
        connecting_once = w.checks.connecting_once;
        touched = λ d h. let t = w.checks.touched d h in record { is_open = t.is_open; qubit = t.qubit; holds = t.holds; is_in = old t.qubit t.is_in };
        swept = λ d h k a b. old k (w.checks.swept d h k a b);
      };
    }

    pub took : (n' : ℕ) (m' : List ℕ) → n' ≡ n → m' ≡ with_mark n m j → Walk M s q n' m' (record g { pending = p })
    took n' m' en em =
        subst (λ (x : ℕ). Walk M s q x m' (record g { pending = p })) (sym en)
        (subst (λ (x : List ℕ). Walk M s q n x (record g { pending = p })) (sym em) took_here)

    pub took_onward : (n' : ℕ) (m' : List ℕ) → n' ≡ n → m' ≡ with_mark n m j → Onward n m g n' m' (record g { pending = p })
    took_onward n' m' en em =
        subst (λ (x : ℕ). Onward n m g x m' (record g { pending = p })) (sym en)
        (subst (λ (x : List ℕ). Onward n m g n x (record g { pending = p })) (sym em) (record {
          size = refl;
          members = refl;
          met = λ d h. h;
          kept = old;
          long = mark_long n m w.roomy.marks j low;
          beyond = mark_beyond n m w.roomy.marks j low;
        }))

    pub took_it : (n' : ℕ) (m' : List ℕ) → n' ≡ n → m' ≡ with_mark n m j → is_marked n' m' j ≡ true
    took_it n' m' en em = ap (λ x. is_marked x m' j) en ∙ ap (λ x. is_marked n x j) em ∙ mark_new n m w.roomy.marks j low

  -- the newest of those that wait becomes a member
  pub popped : (n : ℕ) (m : List ℕ) (g g' : Ground) → Walk M s q n m g → (i : ℕ) → g.pending.list ≡ g'.pending.list ++ i ∷ [] → g'.pending.room ≡ g.pending.room → vec_items g'.members ≡ vec_items g.members ++ i ∷ [] → vec_capacity g'.members ≡ vec_capacity g.members
      → g'.internal ≡ g.internal → g'.connecting ≡ g.connecting → g'.met ≡ g.met → Walk M s q n m g'
  popped n m g g' w i was room now cap ei ec em =
      let P' = g'.pending.list in
      let L = vec_items g.members in
      let L' = vec_items g'.members in
      let once : Distinct (P' ++ i ∷ []) = subst (λ (x : List ℕ). Distinct x) was w.qubits.pending_once in
      let parts = front_once i P' once in
      let waited : In i g.pending.list = new_in i i P' g.pending.list was refl in
      let mi : vec_items g'.internal ≡ vec_items g.internal = ap (λ v. vec_items v) ei in
      let mc : vec_items g'.connecting ≡ vec_items g.connecting = ap (λ v. vec_items v) ec in
      let mm : vec_items g'.met ≡ vec_items g.met = ap (λ v. vec_items v) em in
      record {
        roomy = record {
          all = w.roomy.all;
          marks = w.roomy.marks;
          pending = room ∙ w.roomy.pending;
          members = omega (arith, w.roomy.members, cap);
          internal = omega (arith, w.roomy.internal, ap (λ v. vec_capacity v) ei);
          connecting = omega (arith, w.roomy.connecting, ap (λ v. vec_capacity v) ec);
          met = ap length mm ∙ w.roomy.met;
        };
        qubits = record {
          listed = λ k e. elim (w.qubits.listed k e) [ inl a ↦ inl (old_in k i L L' now a) | inr b ↦ elim (one_more k i P' g.pending.list was b) [ inl c ↦ inr c | inr p ↦ inl (new_in k i L L' now p) ] ];
          member = λ k h. elim (one_more k i L L' now h) [ inl a ↦ w.qubits.member k a | inr p ↦ subst (λ (x : ℕ). is_marked n m x ≡ true) (sym p) (w.qubits.waits i waited) ];
          waits = λ k h. w.qubits.waits k (old_in k i P' g.pending.list was h);
          members_once = more_once i L L' now w.qubits.members_once (λ h. w.qubits.apart i h waited);
          pending_once = parts.0;
          apart = λ k a h. elim (one_more k i L L' now a) [ inl b ↦ w.qubits.apart k b (old_in k i P' g.pending.list was h) | inr p ↦ parts.1 (subst (λ (x : ℕ). In x P') p h) ];
          reached = w.qubits.reached;
        };
        checks = record {
          listed = λ d h. let r = w.checks.listed d (ap (λ (x : List Bool). has x d) (sym mm) ∙ h) in elim r [ inl a ↦ inl (subst (λ (x : List ℕ). In d x) (sym mi) a) | inr b ↦ inr (subst (λ (x : List ℕ). In d x) (sym mc) b) ];
          internal = λ d h. let r = w.checks.internal d (subst (λ (x : List ℕ). In d x) mi h) in (ap (λ (x : List Bool). has x d) mm ∙ r.0, r.1);
          connecting = λ d h. let r = w.checks.connecting d (subst (λ (x : List ℕ). In d x) mc h) in (ap (λ (x : List Bool). has x d) mm ∙ r.0, r.1);
          internal_once = subst (λ (x : List ℕ). Distinct x) (sym mi) w.checks.internal_once;
          connecting_once = subst (λ (x : List ℕ). Distinct x) (sym mc) w.checks.connecting_once;
          touched = λ d h. w.checks.touched d (ap (λ (x : List Bool). has x d) (sym mm) ∙ h);
          swept = λ d h. w.checks.swept d (ap (λ (x : List Bool). has x d) (sym mm) ∙ h);
        };
      }

  -- a touched check, of which all that is to be marked is marked, is met
  module _ (n : ℕ) (m : List ℕ) (g : Ground) (w : Walk M s q n m g) (c : ℕ) (t : Touched M s n m c) (swept : (k : ℕ) → has (row M.checks c) k ≡ true → has (same_side M s q) k ≡ true → is_marked n m k ≡ true) (y : Ground) (met : vec_items y.met ≡ set (vec_items g.met) c true) where
    met_new : has (vec_items y.met) c ≡ true
    met_new = let h : c < length (vec_items g.met) = omega (arith, check_low M.checks c t.qubit t.holds, w.roomy.met) in ap (λ x. has x c) met ∙ get_or-set_same (vec_items g.met) c true false h

    met_old : (d : ℕ) → has (vec_items g.met) d ≡ true → has (vec_items y.met) d ≡ true
    met_old d e = go (eqb d c) refl
      where
        go : (b : Bool) → eqb d c ≡ b → has (vec_items y.met) d ≡ true
        go true p = ap (has (vec_items y.met)) (eqb-true d c p) ∙ met_new
        go false p = ap (λ x. has x d) met ∙ get_or-set_other (vec_items g.met) c d true false (eqb-false d c p) ∙ e

    met_cases : (d : ℕ) → has (vec_items y.met) d ≡ true → (has (vec_items g.met) d ≡ true) ⊎ (d ≡ c)
    met_cases d e = go (eqb d c) refl
      where
        go : (b : Bool) → eqb d c ≡ b → (has (vec_items g.met) d ≡ true) ⊎ (d ≡ c)
        go true p = inr (eqb-true d c p)
        go false p = inl (sym (ap (λ x. has x d) met ∙ get_or-set_other (vec_items g.met) c d true false (eqb-false d c p)) ∙ e)

    met_long : length (vec_items y.met) ≡ length M.checks
    met_long = ap length met ∙ length-set (vec_items g.met) c true ∙ w.roomy.met

    touched : (d : ℕ) → has (vec_items y.met) d ≡ true → Touched M s n m d
    touched d e = elim (met_cases d e) [ inl a ↦ w.checks.touched d a | inr p ↦ subst (λ (x : ℕ). Touched M s n m x) (sym p) t ]

    all_swept : (d : ℕ) → has (vec_items y.met) d ≡ true → (k : ℕ) → has (row M.checks d) k ≡ true → has (same_side M s q) k ≡ true → is_marked n m k ≡ true
    all_swept d e = elim (met_cases d e) [ inl a ↦ w.checks.swept d a | inr p ↦ subst (λ (x : ℕ). (k : ℕ) → has (row M.checks x) k ≡ true → has (same_side M s q) k ≡ true → is_marked n m k ≡ true) (sym p) swept ]

    marked_on : (x : Ground) → Marked M s q n m (record g { internal = x.internal; connecting = x.connecting; met = x.met })
    marked_on x = record {
      listed = w.qubits.listed;
      member = w.qubits.member;
      waits = w.qubits.waits;
      members_once = w.qubits.members_once;
      pending_once = w.qubits.pending_once;
      apart = w.qubits.apart;
      reached = w.qubits.reached;
    }

    pub met_internal : has (vec_items g.met) c ≡ false → meets (row M.checks c) (other_side M s q) ≡ false → vec_items y.internal ≡ vec_items g.internal ++ c ∷ [] → vec_capacity y.internal ≡ vec_capacity g.internal → Walk M s q n m (record g { internal = y.internal; met = y.met })
    met_internal fresh apart items cap =
        let I = vec_items g.internal in
        let I' = vec_items y.internal in
        record {
          roomy = record { all = w.roomy.all; marks = w.roomy.marks; pending = w.roomy.pending; members = w.roomy.members; internal = omega (arith, w.roomy.internal, cap); connecting = w.roomy.connecting; met = met_long };
          qubits = marked_on (record g { internal = y.internal; met = y.met });
          checks = record {
            listed = λ d e. elim (met_cases d e) [ inl a ↦ elim (w.checks.listed d a) [ inl h ↦ inl (old_in d c I I' items h) | inr h ↦ inr h ] | inr p ↦ inl (new_in d c I I' items p) ];
            internal = λ d h. elim (one_more d c I I' items h) [ inl a ↦ (met_old d (w.checks.internal d a).0, (w.checks.internal d a).1) | inr p ↦ (ap (has (vec_items y.met)) p ∙ met_new, ap (λ x. meets (row M.checks x) (other_side M s q)) p ∙ apart) ];
            connecting = λ d h. (met_old d (w.checks.connecting d h).0, (w.checks.connecting d h).1);
            internal_once = more_once c I I' items w.checks.internal_once (λ h. clash (w.checks.internal c h).0 fresh);
            connecting_once = w.checks.connecting_once;
            touched = touched;
            swept = all_swept;
          };
        }

    pub met_connecting : has (vec_items g.met) c ≡ false → meets (row M.checks c) (other_side M s q) ≡ true → vec_items y.connecting ≡ vec_items g.connecting ++ c ∷ [] → vec_capacity y.connecting ≡ vec_capacity g.connecting → Walk M s q n m (record g { connecting = y.connecting; met = y.met })
    met_connecting fresh across items cap =
        let C = vec_items g.connecting in
        let C' = vec_items y.connecting in
        record {
          roomy = record { all = w.roomy.all; marks = w.roomy.marks; pending = w.roomy.pending; members = w.roomy.members; internal = w.roomy.internal; connecting = omega (arith, w.roomy.connecting, cap); met = met_long };
          qubits = marked_on (record g { connecting = y.connecting; met = y.met });
          checks = record {
            listed = λ d e. elim (met_cases d e) [ inl a ↦ elim (w.checks.listed d a) [ inl h ↦ inl h | inr h ↦ inr (old_in d c C C' items h) ] | inr p ↦ inr (new_in d c C C' items p) ];
            internal = λ d h. (met_old d (w.checks.internal d h).0, (w.checks.internal d h).1);
            connecting = λ d h. elim (one_more d c C C' items h) [ inl a ↦ (met_old d (w.checks.connecting d a).0, (w.checks.connecting d a).1) | inr p ↦ (ap (has (vec_items y.met)) p ∙ met_new, ap (λ x. meets (row M.checks x) (other_side M s q)) p ∙ across) ];
            internal_once = w.checks.internal_once;
            connecting_once = more_once c C C' items w.checks.connecting_once (λ h. clash (w.checks.connecting c h).0 fresh);
            touched = touched;
            swept = all_swept;
          };
        }
