-- Qubits that are done one after another are done as one set.
use Rattle.std.proofs.Common.{◌≡◌, ℕ, zero, suc, ◌+◌, ◌<◌, ◌≤◌, Bool, true, false, cond, ◌||◌, not, ◌&&◌, ◌⊎◌, List, [], ◌∷◌, length, drop, get_or, set, sym, refl, ap, ap₂, ◌∙◌, inl, inr, add-zero, arith, length-set}
use lib.ListN.{length-replicate}
use Rattle.std.proofs.lemmas.List.{length-map}
use Rattle.std.proofs.lemmas.Bool.{cases_eq}
use Rattle.sets.specs.Bits.{flip}
use Rattle.sets.specs.Sets.{has, row, odd, less, plus, empty, only, size, elements, elements_from}
use Rattle.sets.proofs.Bits.{flip_assoc, flip_comm, flip_false}
use Rattle.sets.proofs.Sets.{ext, length_over, has_less, has_plus, has_empty, length_only, odd_plus}
use Rattle.sets.proofs.Sizes.{size_length, size_part, size_less}
use Rattle.meaning.specs.Meaning.{Meaning, qubits}
use Rattle.linear.specs.Field.{bits}
use Rattle.linear.specs.Basis.{hd, tl}
use Rattle.linear.specs.Compress.{expand}
use Rattle.rules.specs.Reports.{syndrome}
use Rattle.rules.specs.States.{State, finish, count}
use Rattle.rules.proofs.Core.{has_syndrome}
use Rattle.upkeep.proofs.One.{at_only, plus_nothing, syndrome_none}
use Rattle.upkeep.proofs.Finish.{Long, with_counts, total}

-- one qubit alone, flipped or not
abbrev pub one : Meaning → ℕ → Bool → State → State
one M q f s = finish M (only (qubits M) q) (cond f (only (qubits M) q) (empty (qubits M))) s

-- each qubit of the list, flipped if x has true at its place
abbrev pub each : Meaning → List ℕ → List Bool → State → State
each M [] x s = s
each M (q ∷ l) x s = each M l (tl bits x) (one M q (hd bits x) s)

-- the next one of what is left to do
each_next : (M : Meaning) (i : ℕ) (l : List ℕ) (x : List Bool) (s : State) → i < length l → each M (drop i l) (drop i x) s ≡ each M (drop (suc i) l) (drop (suc i) x) (one M (get_or l i 0) (has x i) s)
each_next M i [] x s h = absurd (omega (arith, h))
each_next M zero (q ∷ l) [] s h = refl
each_next M zero (q ∷ l) (b ∷ x) s h = refl
each_next M (suc i) (q ∷ l) [] s h = let h' : i < length l = omega (arith, h) in ap (λ y. each M (drop i l) y s) (sym (drop_nil i)) ∙ each_next M i l [] s h'
  where
    drop_nil : (i : ℕ) → ◌≡◌ {A = List Bool} (drop i []) []
    drop_nil zero = refl
    drop_nil (suc i) = refl
each_next M (suc i) (q ∷ l) (b ∷ x) s h = let h' : i < length l = omega (arith, h) in each_next M i l x s h'

pub each_step : (M : Meaning) (i : ℕ) (l : List ℕ) (x : List Bool) (s : State) → i < length l → each M (drop (i + 1) l) (drop (i + 1) x) (one M (get_or l i 0) (has x i) s) ≡ each M (drop i l) (drop i x) s
each_step M i l x s h = let on : i + 1 ≡ suc i = omega arith in ap (λ k. each M (drop k l) (drop k x) (one M (get_or l i 0) (has x i) s)) on ∙ sym (each_next M i l x s h)

-- a set after j numbers that it lacks
abbrev shifted : ℕ → List Bool → List Bool
shifted zero m = m
shifted (suc j) m = false ∷ shifted j m

length_shifted : (j : ℕ) (m : List Bool) → length (shifted j m) ≡ j + length m
length_shifted zero m = omega arith
length_shifted (suc j) m = omega (arith, length_shifted j m)

shifted_set : (j : ℕ) (m : List Bool) (b : Bool) → set (shifted (suc j) m) j b ≡ shifted j (b ∷ m)
shifted_set zero m b = refl
shifted_set (suc j) m b = ap (λ l. false ∷ l) (shifted_set j m b)

shifted_false : (j : ℕ) (m : List Bool) → shifted (suc j) m ≡ shifted j (false ∷ m)
shifted_false zero m = refl
shifted_false (suc j) m = ap (λ l. false ∷ l) (shifted_false j m)

shifted_none : (j : ℕ) (m : List Bool) → has (shifted (suc j) m) j ≡ false
shifted_none zero m = refl
shifted_none (suc j) m = shifted_none j m

length_expand : (m x : List Bool) → length (expand bits m x) ≡ length m
length_expand [] x = refl
length_expand (true ∷ m) x = ap suc (length_expand m (tl bits x))
length_expand (false ∷ m) x = ap suc (length_expand m x)

none_shifted : (j k : ℕ) → has (shifted j []) k ≡ false
none_shifted zero k = refl
none_shifted (suc j) zero = refl
none_shifted (suc j) (suc k) = none_shifted j k

-- nothing is done
module _ (M : Meaning) (s : State) (long : Long M s) (k : List Bool) (l : length k ≡ qubits M) (none : (i : ℕ) → has k i ≡ false) where
  less_nothing : (a : List Bool) → length a ≡ qubits M → less a k ≡ a
  less_nothing a e = ext (less a k) a (length_over (λ x y. x && not y) a k (qubits M) e l ∙ sym e) (λ i. has_less a k i ∙ ap (λ t. has a i && not t) (none i) ∙ yes (has a i))
    where
      yes : (x : Bool) → (x && true) ≡ x
      yes true = refl
      yes false = refl

  is_empty : k ≡ empty (qubits M)
  is_empty = ext k (empty (qubits M)) (l ∙ sym (length-replicate (qubits M) false)) (λ i. none i ∙ sym (has_empty (qubits M) i))

  finish_nothing : finish M k k s ≡ s
  finish_nothing = λ i.
      record {
        erased = less_nothing s.erased long.erased i;
        shelved = less_nothing s.shelved long.shelved i;
        flipped = plus_nothing s.flipped k (long.flipped ∙ sym l) none i;
        closed = s.closed;
        odds = (ap (λ z. plus s.odds (syndrome M z)) is_empty ∙ syndrome_none M s.odds long.odds) i;
        shelf = s.shelf;
        void = s.void;
        number = s.number;
        peeled = s.peeled;
        pruned = s.pruned;
        chosen = s.chosen;
      }

-- first the qubits a, of which x are flipped, then the qubits b, of which y are flipped: k and z in all
module _ (M : Meaning) (s : State) (long : Long M s) (a x b y k z : List Bool)
    (la : length a ≡ qubits M) (lx : length x ≡ qubits M) (lb : length b ≡ qubits M) (ly : length y ≡ qubits M) (lk : length k ≡ qubits M) (lz : length z ≡ qubits M)
    (both : (i : ℕ) → has k i ≡ (has a i || has b i)) (flips : (i : ℕ) → has z i ≡ flip (has x i) (has y i)) where
  less_twice : (c : List Bool) → length c ≡ qubits M → less (less c a) b ≡ less c k
  less_twice c e =
      ext (less (less c a) b) (less c k) (length_over (λ x y. x && not y) (less c a) b (qubits M) (length_over (λ x y. x && not y) c a (qubits M) e la) lb ∙ sym (length_over (λ x y. x && not y) c k (qubits M) e lk))
      (λ i. has_less (less c a) b i ∙ ap (λ t. t && not (has b i)) (has_less c a i) ∙ go (has c i) (has a i) (has b i) ∙ ap (λ t. has c i && not t) (sym (both i)) ∙ sym (has_less c k i))
    where
      go : (c a b : Bool) → ((c && not a) && not b) ≡ (c && not (a || b))
      go true true b = refl
      go true false b = refl
      go false a b = refl

  plus_is : plus x y ≡ z
  plus_is = ext (plus x y) z (length_over flip x y (qubits M) lx ly ∙ sym lz) (λ i. has_plus x y i ∙ sym (flips i))

  plus_twice : (c u v w : List Bool) (n : ℕ) → length c ≡ n → length u ≡ n → length v ≡ n → length w ≡ n → ((i : ℕ) → has w i ≡ flip (has u i) (has v i)) → plus (plus c u) v ≡ plus c w
  plus_twice c u v w n lc lu lv lw f =
      ext (plus (plus c u) v) (plus c w) (length_over flip (plus c u) v n (length_over flip c u n lc lu) lv ∙ sym (length_over flip c w n lc lw))
      (λ i. has_plus (plus c u) v i ∙ ap (λ t. flip t (has v i)) (has_plus c u i) ∙ flip_assoc (has c i) (has u i) (has v i) ∙ ap (flip (has c i)) (sym (f i)) ∙ sym (has_plus c w i))

  turns : (d : ℕ) → has (syndrome M z) d ≡ flip (has (syndrome M x) d) (has (syndrome M y) d)
  turns d =
      has_syndrome M z d ∙ ap (odd (row M.checks d)) (sym plus_is) ∙ odd_plus (row M.checks d) x y
      ∙ ap₂ flip (sym (has_syndrome M x d)) (sym (has_syndrome M y d))

  pub finish_twice : finish M b y (finish M a x s) ≡ finish M k z s
  finish_twice = λ i.
      record {
        erased = less_twice s.erased long.erased i;
        shelved = less_twice s.shelved long.shelved i;
        flipped = plus_twice s.flipped x y z (qubits M) long.flipped lx ly lz flips i;
        closed = s.closed;
        odds = plus_twice s.odds (syndrome M x) (syndrome M y) (syndrome M z) (length M.checks) long.odds (length-map M.checks _) (length-map M.checks _) (length-map M.checks _) turns i;
        shelf = s.shelf;
        void = s.void;
        number = s.number;
        peeled = s.peeled;
        pruned = s.pruned;
        chosen = s.chosen;
      }

pub long_finish : (M : Meaning) (s : State) (k z : List Bool) → Long M s → length k ≡ qubits M → length z ≡ qubits M → Long M (finish M k z s)
long_finish M s k z long lk lz =
    record {
      erased = length_over (λ x y. x && not y) s.erased k (qubits M) long.erased lk;
      shelved = length_over (λ x y. x && not y) s.shelved k (qubits M) long.shelved lk;
      flipped = length_over flip s.flipped z (qubits M) long.flipped lz;
      odds = length_over flip s.odds (syndrome M z) (length M.checks) long.odds (length-map M.checks _);
    }

length_cond : (n q : ℕ) (f : Bool) → length (cond f (only n q) (empty n)) ≡ n
length_cond n q true = length_only n q
length_cond n q false = length-replicate n false

-- the qubit q, and then those of a set that lacks it
module _ (n q : ℕ) (low : q < n) (m : List Bool) (long : length m ≡ n) (lacks : has m q ≡ false) where
  joined : (i : ℕ) → has (set m q true) i ≡ (has (only n q) i || has m i)
  joined i = go (at_only n q i low (cases_eq i q) m true long)
    where
      go : ((has (only n q) i ≡ true) × (has (set m q true) i ≡ true) × (i ≡ q)) ⊎ ((has (only n q) i ≡ false) × (has (set m q true) i ≡ has m i)) → has (set m q true) i ≡ (has (only n q) i || has m i)
      go (inl h) = h.1 ∙ sym (ap (λ t. t || has m i) h.0)
      go (inr h) = h.1 ∙ sym (ap (λ t. t || has m i) h.0)

  added : (f : Bool) (i : ℕ) → has (set m q f) i ≡ flip (has (cond f (only n q) (empty n)) i) (has m i)
  added true i = go (at_only n q i low (cases_eq i q) m true long)
    where
      go : ((has (only n q) i ≡ true) × (has (set m q true) i ≡ true) × (i ≡ q)) ⊎ ((has (only n q) i ≡ false) × (has (set m q true) i ≡ has m i)) → has (set m q true) i ≡ flip (has (only n q) i) (has m i)
      go (inl h) = h.1 ∙ sym (ap₂ flip h.0 (ap (has m) h.2 ∙ lacks))
      go (inr h) = h.1 ∙ sym (ap (λ t. flip t (has m i)) h.0)
  added false i = go (at_only n q i low (cases_eq i q) m false long)
    where
      go : ((has (only n q) i ≡ true) × (has (set m q false) i ≡ false) × (i ≡ q)) ⊎ ((has (only n q) i ≡ false) × (has (set m q false) i ≡ has m i)) → has (set m q false) i ≡ flip (has (empty n) i) (has m i)
      go (inl h) = h.1 ∙ sym (ap₂ flip (has_empty n i) (ap (has m) h.2 ∙ lacks))
      go (inr h) = h.1 ∙ sym (ap (λ t. flip t (has m i)) (has_empty n i))

module _ (M : Meaning) where
  each_from : (j : ℕ) (m x : List Bool) (s : State) → Long M s → j + length m ≡ qubits M → each M (elements_from j m) x s ≡ finish M (shifted j m) (shifted j (expand bits m x)) s
  each_from j [] x s long e = sym (finish_nothing M s long (shifted j []) (length_shifted j [] ∙ e) (none_shifted j))
  each_from j (true ∷ m) x s long e =
      let low : j < qubits M = omega (arith, e) in
      let next : j + 1 + length m ≡ qubits M = omega (arith, e) in
      let f = hd bits x in
      let rest = expand bits m (tl bits x) in
      let lk : length (shifted (suc j) m) ≡ qubits M = omega (arith, length_shifted (suc j) m, e) in
      let lz : length (shifted (suc j) rest) ≡ qubits M = omega (arith, length_shifted (suc j) rest, length_expand m (tl bits x), e) in
      let suc_is : j + 1 ≡ suc j = omega arith in
      each_from (j + 1) m (tl bits x) (one M j f s) (long_finish M s (only (qubits M) j) (cond f (only (qubits M) j) (empty (qubits M))) long (length_only (qubits M) j) (length_cond (qubits M) j f)) next
      ∙ ap (λ i. finish M (shifted i m) (shifted i rest) (one M j f s)) suc_is
      ∙ finish_twice M s long (only (qubits M) j) (cond f (only (qubits M) j) (empty (qubits M))) (shifted (suc j) m) (shifted (suc j) rest)
      (set (shifted (suc j) m) j true) (set (shifted (suc j) rest) j f)
      (length_only (qubits M) j) (length_cond (qubits M) j f) lk lz (length-set (shifted (suc j) m) j true ∙ lk) (length-set (shifted (suc j) rest) j f ∙ lz)
      (joined (qubits M) j low (shifted (suc j) m) lk (shifted_none j m)) (added (qubits M) j low (shifted (suc j) rest) lz (shifted_none j rest) f)
      ∙ ap₂ (λ k z. finish M k z s) (shifted_set j m true) (shifted_set j rest f)
  each_from j (false ∷ m) x s long e =
      let next : j + 1 + length m ≡ qubits M = omega (arith, e) in
      let suc_is : j + 1 ≡ suc j = omega arith in
      each_from (j + 1) m x s long next ∙ ap (λ i. finish M (shifted i m) (shifted i (expand bits m x)) s) suc_is
      ∙ ap₂ (λ k z. finish M k z s) (shifted_false j m) (shifted_false j (expand bits m x))

  -- the qubits of a set, in rising order
  pub each_is : (k x : List Bool) (s : State) → Long M s → length k ≡ qubits M → each M (elements k) x s ≡ finish M k (expand bits k x) s
  each_is k x s long e = each_from 0 k x s long (omega (arith, e))

-- erased qubits that are done leave room to count a slack, which is no more than they are
pub room_for_all : (M : Meaning) (s : State) (k z : List Bool) (c : ℕ) → length s.erased ≡ length k → ((i : ℕ) → has k i ≡ true → has s.erased i ≡ true) → c ≤ size k → total (finish M k z s) + c ≤ total s
room_for_all M s k z c l inside few = omega (arith, size_part s.erased k l inside)

pub count_chosen : (s : State) (c : ℕ) → with_counts s s.peeled s.pruned (s.chosen + c) ≡ count 0 0 c s
count_chosen s c = let a = sym (add-zero s.peeled) in let b = sym (add-zero s.pruned) in λ i. with_counts s (a i) (b i) (s.chosen + c)
