-- What a walk over a cluster and its system tell, in the words of the rules.
use Rattle.std.proofs.Common.{◌≡◌, ℕ, zero, suc, ◌<◌, ◌≤◌, Bool, true, false, cond, not, ◌&&◌, eqb, ltb, List, [], ◌∷◌, length, set, take, drop, Option, Some, None, Ok, Err, Result, sym, refl, ap, ap₂, ◌∙◌, subst, arith, eqb-true, lt-ltb, ltb-true, ltb-false, length-set, get_or-set_same, get_or-set_other}
use borrow.Author.Tests.{eqb-false}
use lib.ListN.{length-map}
use Rattle.std.proofs.lemmas.Bool.{and_parts, not-false, false_from_ne_true}
use Rattle.terms.specs.Answering.{Answers}
use Rattle.terms.specs.declared.refusal.Refusal.{Refusal}
use Rattle.terms.proofs.Answering.{test_fails, answers_ok, answers_err, answered_ok, answered_err}
use Rattle.terms.specs.declared.refusal.Refusal.TheVariants.{SeveralConnecting, TooManyUnknowns, NoSolution}
use Rattle.sets.specs.Sets.{has, any, size, lowest, only, empty, elements, holders}
use Rattle.sets.proofs.Bits.{same}
use Rattle.sets.proofs.Sets.{ext, has_any, any_some, has_below, has_less, has_meet, length_over, only_self, only_other, length_only}
use Rattle.sets.proofs.Sizes.{size_some, one_of, lowest_has}
use Rattle.meaning.specs.Meaning.{Meaning, qubits}
use Rattle.rules.specs.declared.answers.Status.{Status}
use Rattle.rules.specs.States.{State}
use Rattle.rules.specs.Clusters.{touched, cluster, internal, free, other_side}
use Rattle.rules.specs.Systems.{solutions}
use Rattle.rules.specs.Moves.{connects}
use Rattle.rules.specs.Refusing.{Bar, bar, too_short, in_use}
use Rattle.rules.specs.Calls.{solve_bars}
use Rattle.rules.proofs.Bars.{Clear, not_ok}
use Rattle.elimination.specs.Calls.{too_many}
use Rattle.table.specs.OfTable.{meaning_of}
use Rattle.table.specs.declared.Table.{Table}
use Rattle.upkeep.specs.Changed.{marked}
use Rattle.upkeep.specs.Fault.{fault}
use Rattle.upkeep.specs.Statuses.{erased_of}
use Rattle.upkeep.proofs.Faults.{fault_some, fault_none, fault_clear, fault_at}
use Rattle.systems.specs.declared.System.{System}
use Rattle.systems.specs.Stated.{Stated}
use Rattle.systems.specs.Told.{free_beside}
use Rattle.systems.proofs.Reading.{free_by_rules}
use Rattle.walking.specs.Found.{by_number, told}
use Rattle.walking.specs.Seen.{seen}
use Rattle.walking.specs.Walked.{Findings, suits, walk_bars, walked}
use Rattle.walking.specs.declared.found.Connecting.{Connecting}
use Rattle.walking.specs.declared.found.Connecting.TheVariants.{Absent, One, Several}
use Rattle.trial.specs.Clusters.{Met, IsFree, solve_fault}
use Rattle.trial.proofs.Shelves.{marked_elements}

-- what is told of a set of connecting checks, by how many they are
abbrev rank : Connecting → ℕ
rank Absent = 0
rank (One c) = 1
rank Several = 2

abbrev check_in : Connecting → ℕ
check_in Absent = 0
check_in (One c) = c
check_in Several = 0

one_told : (n l c : ℕ) → One c ≡ by_number n l → (n ≡ 1) × (l ≡ c)
one_told zero l c e = absurd (omega (arith, ap rank e))
one_told (suc zero) l c e = (refl, sym (ap check_in e))
one_told (suc (suc n)) l c e = absurd (omega (arith, ap rank e))

none_told : (n l : ℕ) → n ≤ 1 → ((c : ℕ) → by_number n l ≡ One c → ⊥) → n ≡ 0
none_told zero l few h = refl
none_told (suc zero) l few h = absurd (h l refl)
none_told (suc (suc n)) l few h = absurd (omega (arith, few))

several_told : (n l : ℕ) → Several ≡ by_number n l → ltb 1 n ≡ true
several_told zero l e = absurd (omega (arith, ap rank e))
several_told (suc zero) l e = absurd (omega (arith, ap rank e))
several_told (suc (suc n)) l e = lt-ltb 1 (suc (suc n)) (omega arith)

few_told : (n l : ℕ) → (by_number n l ≡ Several → ⊥) → n ≤ 1
few_told zero l h = omega arith
few_told (suc zero) l h = omega arith
few_told (suc (suc n)) l h = absurd (h refl)

no_element : (m : List Bool) → size m ≡ 0 → any m ≡ false
no_element m e = go (any m) refl
  where
    go : (b : Bool) → any m ≡ b → b ≡ false
    go false h = refl
    go true h = let p = any_some m h in absurd (omega (arith, size_some m p.0 p.1, e))

-- of a cluster with at most one connecting check
module _ (M : Meaning) (s : State) (q : ℕ) (t : Connecting) (met : Met M s q t) where
  abbrev K : List Bool
  K = cluster M s q

  abbrev C : List Bool
  C = connects M s q

  abbrev I : List Bool
  I = internal M s q K

  abbrev T : List Bool
  T = touched M s K

  long_touched : length T ≡ length M.checks
  long_touched = length_over (λ x y. x && not y) (holders M.checks K) s.closed (length M.checks) (length-map M.checks _) met.closed

  long_connects : length C ≡ length M.checks
  long_connects = length_over ◌&&◌ T (holders M.checks (other_side M s q)) (length M.checks) long_touched (length-map M.checks _)

  pub long_internal : length I ≡ length M.checks
  long_internal = length_over (λ x y. x && not y) T C (length M.checks) long_touched long_connects

  -- all internal checks are stated, once those that are listed are added to a system that has begun
  pub stated_all : (e f : System) (inner : List ℕ) (odd : List Bool) → ((odds : List Bool) → length odds ≡ length M.checks → Stated e M K (empty (length M.checks)) odds)
      → s.odds ≡ odd → inner ≡ elements I → ((k among : List Bool) → Stated e M k among odd → Stated f M k (marked inner among) odd) → Stated f M K I s.odds
  stated_all e f inner odd begun is lists adds =
      let names : marked inner (empty (length M.checks)) ≡ I = ap (λ l. marked l (empty (length M.checks))) lists ∙ marked_elements (length M.checks) I long_internal in
      subst (λ (o : List Bool). Stated f M K I o) (sym is)
      (subst (λ (m : List Bool). Stated f M K m odd) names (adds K (empty (length M.checks)) (begun odd (ap length (sym is) ∙ met.odds))))

  -- none is told: none is free
  pub not_free : ((c : ℕ) → t ≡ One c → ⊥) → IsFree M s q None
  not_free h = ap (λ b. b && not (eqb (length (solutions M.checks K T C)) 0)) (no_element C (none_told (size C) (lowest C) met.few (λ c e. h c (met.tells ∙ e))))

  module _ (c : ℕ) (is : One c ≡ t) where
    at : (size C ≡ 1) × (lowest C ≡ c)
    at = one_told (size C) (lowest C) c (is ∙ met.tells)

    element : (d : ℕ) × (has C d ≡ true) × ((i : ℕ) → has C i ≡ true → i ≡ d)
    element = one_of C at.0

    named : has C c ≡ true
    named = ap (has C) (sym at.1) ∙ lowest_has C (has_any C element.0 element.1)

    alone : (d : ℕ) → has C d ≡ true → d ≡ c
    alone d e = element.2 d e ∙ sym (element.2 c named)

    pub check_low : c < length M.checks
    check_low = omega (arith, has_below C c named, long_connects)

    only_one : only (length M.checks) c ≡ C
    only_one =
        ext (only (length M.checks) c) C (length_only (length M.checks) c ∙ sym long_connects)
        (λ d. same (has (only (length M.checks) c) d) (has C d) (λ e. ap (has C) (only_other (length M.checks) c d e) ∙ named) (λ e. ap (has (only (length M.checks) c)) (alone d e) ∙ only_self (length M.checks) c check_low))

    pub outside : has I c ≡ false
    outside = has_less T C c ∙ ap (λ b. has T c && not b) named ∙ no (has T c)
      where
        no : (b : Bool) → (b && false) ≡ false
        no true = refl
        no false = refl

    with_it : T ≡ set I c true
    with_it = ext T (set I c true) (long_touched ∙ sym (length-set I c true ∙ long_internal)) (λ d. go d (eqb d c) refl)
      where
        yes : (b : Bool) → (b && true) ≡ b
        yes true = refl
        yes false = refl

        go : (d : ℕ) (b : Bool) → eqb d c ≡ b → has T d ≡ has (set I c true) d
        go d true e =
            let here : d ≡ c = eqb-true d c e in
            let low : c < length I = omega (arith, check_low, long_internal) in
            ap (has T) here ∙ (and_parts (has T c) (has (holders M.checks (other_side M s q)) c) (sym (has_meet T (holders M.checks (other_side M s q)) c) ∙ named)).0
            ∙ sym (ap (has (set I c true)) here ∙ get_or-set_same I c true false low)
        go d false e =
            let off : has C d ≡ false = false_from_ne_true (has C d) (λ h. eqb-false d c e (alone d h)) in
            sym (get_or-set_other I c d true false (eqb-false d c e) ∙ has_less T C d ∙ ap (λ b. has T d && not b) off ∙ yes (has T d))

    -- one is told: it is free by the rules if it is free beside the internal checks
    pub free_told : (r : Bool) → r ≡ free_beside M K I c → r ≡ free M s K C
    free_told r e = e ∙ free_by_rules M s K I c with_it check_low ∙ ap (free M s K) only_one

    pub is_free : true ≡ free_beside M K I c → IsFree M s q (Some c)
    is_free e = (sym (free_told true e), named, at.1)

-- what an answered walk says
pub record Went (t : Table) (status : List Status) (closed : List Bool) (q : ℕ) (scratch : List ℕ) (c : Connecting) (w : Findings) : Type 0 where
  pub clear : Clear (walk_bars (meaning_of t) status closed q scratch)
  pub tells : c ≡ told (connects (meaning_of t) (seen (erased_of status) closed) q)
  pub members : w.members ≡ elements (cluster (meaning_of t) (seen (erased_of status) closed) q)
  pub inner : w.internal ≡ elements (internal (meaning_of t) (seen (erased_of status) closed) q (cluster (meaning_of t) (seen (erased_of status) closed) q))
  pub table : w.table ≡ t

module _ (status : List Status) (closed : List Bool) (q : ℕ) (scratch : List ℕ) (w : Findings) where
  abbrev bars : List Bar
  bars = walk_bars (meaning_of w.table) status closed q scratch

  abbrev S : State
  S = seen (erased_of status) closed

  abbrev found : Result Connecting Refusal × Findings
  found = (Ok (told (connects (meaning_of w.table) S q)), record { table = w.table; members = elements (cluster (meaning_of w.table) S q); internal = elements (internal (meaning_of w.table) S q (cluster (meaning_of w.table) S q)) })

  abbrev ok_in : (r : Result Connecting Refusal) (d : Connecting) → Connecting
  ok_in (Ok c) d = c
  ok_in (Err f) d = d

  pub went : (c : Connecting) (v : Findings) → (Ok c, v) ≡ walked status closed q scratch w → Went w.table status closed q scratch c v
  went c v e = go (fault bars) refl
    where
      go : (o : Option Refusal) → fault bars ≡ o → Went w.table status closed q scratch c v
      go (Some f) h = not_ok f c (sym (ap (λ (r : Result Connecting Refusal × Findings). r.0) (e ∙ fault_some w found bars f (sym h))))
      go None h =
          let is : (Ok c, v) ≡ found = e ∙ fault_none w found bars (sym h) in
          let view : v ≡ found.1 = ap (λ (r : Result Connecting Refusal × Findings). r.1) is in
          record {
            clear = fault_clear bars h;
            tells = ap (λ (r : Result Connecting Refusal × Findings). ok_in r.0 c) is;
            members = ap (λ (x : Findings). x.members) view;
            inner = ap (λ (x : Findings). x.internal) view;
            table = ap (λ (x : Findings). x.table) view;
          }

  alike : (f g : Refusal) → ◌≡◌ {A = Result Connecting Refusal} (Err f) (Err g) → f ≡ g
  alike f g e = cc

  pub stopped : (f : Refusal) (v : Findings) → (Err f, v) ≡ walked status closed q scratch w → (Some f ≡ fault bars) × (v ≡ w)
  stopped f v e = go (fault bars) refl
    where
      go : (o : Option Refusal) → fault bars ≡ o → (Some f ≡ fault bars) × (v ≡ w)
      go (Some g) h =
          let is : (Err f, v) ≡ (Err g, w) = e ∙ fault_some w found bars g (sym h) in
          let first : ◌≡◌ {A = Result Connecting Refusal} (Err f) (Err g) = ap (λ (r : Result Connecting Refusal × Findings). r.0) is in
          (ap (λ (x : Refusal). Some x) (alike f g first) ∙ sym h, ap (λ (r : Result Connecting Refusal × Findings). r.1) is)
      go None h = not_ok f _ (ap (λ (r : Result Connecting Refusal × Findings). r.0) (e ∙ fault_none w found bars (sym h)))

-- and in a state that has these statuses and closed checks
pub record WentIn (M : Meaning) (s : State) (q : ℕ) (scratch : List ℕ) (c : Connecting) (w : Findings) : Type 0 where
  pub clear : Clear (too_short M scratch ∷ in_use M scratch ∷ [])
  pub start : has s.erased q ≡ true
  pub tells : c ≡ told (connects M s q)
  pub members : w.members ≡ elements (cluster M s q)
  pub inner : w.internal ≡ elements (internal M s q (cluster M s q))

pub went_in : (t : Table) (status : List Status) (closed : List Bool) (q : ℕ) (scratch : List ℕ) (c : Connecting) (w : Findings) → Went t status closed q scratch c w
    → (s : State) → erased_of status ≡ s.erased → closed ≡ s.closed → WentIn (meaning_of t) s q scratch c w
went_in t status closed q scratch c w h s er cl =
    let M : Meaning = meaning_of t in
    let same : seen (erased_of status) closed ≡ seen s.erased s.closed = ap₂ seen er cl in
    let suit = not-false (suits M status closed q) h.clear.1.1.0 in
    let on = (and_parts (eqb (length status) (qubits M) && eqb (length closed) (length M.checks)) (has (erased_of status) q) suit).1 in
    record {
      clear = (h.clear.0, (h.clear.1.0, tt));
      start = ap (λ (m : List Bool). has m q) (sym er) ∙ on;
      tells = h.tells ∙ ap (λ (x : State). told (connects M x q)) same;
      members = h.members ∙ ap (λ (x : State). elements (cluster M x q)) same;
      inner = h.inner ∙ ap (λ (x : State). elements (internal M x q (cluster M x q))) same;
    }

-- what follows the bars that do not hold
fault_after : (k : ℕ) (l : List Bar) → Clear (take k l) → fault l ≡ fault (drop k l)
fault_after zero l c = refl
fault_after (suc k) [] c = refl
fault_after (suc k) (b ∷ l) c = ap (λ t. cond t (Some b.says) (fault l)) c.0 ∙ fault_after k l c.1

module _ (M : Meaning) (s : State) (q : ℕ) (scratch : List ℕ) (c : Connecting) (w : Findings) (h : WentIn M s q scratch c w) (low : q < qubits M) (live : s.void ≡ false) where
  abbrev all : List Bar
  all = solve_bars M s q scratch (cluster M s q) (connects M s q)

  first : Clear (take 5 all)
  first = (ap not (lt-ltb q (qubits M) low), (h.clear.0, (h.clear.1.0, (live, (ap not h.start, tt)))))

  pub is_several : c ≡ Several → Some SeveralConnecting ≡ solve_fault M s q scratch
  is_several is = fault_at 5 all (bar true NoSolution) (omega arith) first (several_told (size (connects M s q)) (lowest (connects M s q)) (sym is ∙ h.tells))

  module _ (not_several : c ≡ Several → ⊥) where
    pub few : size (connects M s q) ≤ 1
    few = few_told (size (connects M s q)) (lowest (connects M s q)) (λ e. not_several (h.tells ∙ e))

    pub rest : solve_fault M s q scratch ≡ too_many (size (cluster M s q))
    rest = fault_after 6 all (first.0, (first.1.0, (first.1.1.0, (first.1.1.1.0, (first.1.1.1.1.0, (few_ltb (size (connects M s q)) few, tt))))))
      where
        few_ltb : (n : ℕ) → n ≤ 1 → ltb 1 n ≡ false
        few_ltb n f = false_from_ne_true (ltb 1 n) (λ e. absurd (omega (arith, ltb-true 1 n e, f)))

    pub answers : {X : Type 0} (r : Result X Refusal) (P Q : X → Type 0) → Answers r (too_many (size (cluster M s q))) P
        → ((x : X) → size (cluster M s q) ≤ 256 → P x → Q x) → Answers r (solve_fault M s q scratch) Q
    answers {X} r P Q a f = subst (λ (o : Option Refusal). Answers r o Q) (sym rest) (go r a)
      where
        go : (r : Result X Refusal) → Answers r (too_many (size (cluster M s q))) P → Answers r (too_many (size (cluster M s q))) Q
        go (Ok x) a =
            let b = answered_ok x (too_many (size (cluster M s q))) P a in
            let n = size (cluster M s q) in
            answers_ok x (too_many n) Q b.0 (f x (ltb-false 256 n (test_fails (ltb 256 n) TooManyUnknowns None b.0).0) b.1)
        go (Err e) a = answers_err e (too_many (size (cluster M s q))) Q (answered_err e (too_many (size (cluster M s q))) P a)
