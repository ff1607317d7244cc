-- What stays true of a trial that is not void: what is left to explain, against the report that it was opened on.
use Rattle.std.proofs.Common.{◌≡◌, ℕ, ◌+◌, ◌*◌, ◌^◌, Bool, true, false, not, ◌&&◌, eqb, ◌⊎◌, List, [], ◌∷◌, ◌++◌, length, sym, refl, ap, ◌∙◌, subst, inl, inr, mul_assoc, mul-zero, arith, pow-add}
use Rattle.std.proofs.lemmas.Bool.{and_parts, false_from_ne_true}
use lib.ListN.{length-map, length-replicate}
use Rattle.sets.specs.Bits.{flip}
use Rattle.sets.specs.Sets.{odd, has, row, plus}
use Rattle.sets.specs.Lists.{In, Exactly}
use Rattle.sets.proofs.Bits.{clash, flip_cases, flip_self, flip_assoc, flip_false, flip_four}
use Rattle.sets.proofs.Sets.{has_plus, has_empty, length_over, ext, within_length, within_has, has_within, has_mapped, odd_plus, odd_nil, odd_empty, row_in, row_of}
use Rattle.sets.proofs.Numbers.{eqb_same}
use Rattle.meaning.specs.Meaning.{Meaning, Sound, qubits}
use Rattle.linear.proofs.Count.{exactly_iff, exactly_none}
use Rattle.rules.specs.Reports.{Report, For, Fits, syndrome, product, Named}
use Rattle.rules.proofs.Split.{Under, Res, Sys, rest, turned, res_cong, split}

sole : {X : Type 0} {P : X → Type 0} → Exactly 1 P → (a b : X) → P a → P b → a ≡ b
sole {X} {P} E a b p q = go E.all E.count (E.lists.complete a p) (E.lists.complete b q)
  where
    go : (l : List X) → length l ≡ 1 → In a l → In b l → a ≡ b
    go [] e m k = absurd m
    go (x ∷ []) e (inl m) (inl k) = m ∙ sym k
    go (x ∷ []) e (inl m) (inr k) = absurd k
    go (x ∷ []) e (inr m) k = absurd m
    go (x ∷ y ∷ l) e m k = absurd (omega arith)

none_of : {X : Type 0} {P : X → Type 0} → Exactly 0 P → (a : X) → ¬ P a
none_of {X} {P} E a p = go E.all E.count (E.lists.complete a p)
  where
    go : (l : List X) → length l ≡ 0 → In a l → ⊥
    go [] e m = m
    go (x ∷ l) e m = omega arith

pub has_syndrome : (M : Meaning) (e : List Bool) (d : ℕ) → has (syndrome M e) d ≡ odd (row M.checks d) e
has_syndrome M e d = has_mapped (λ c. odd c e) (odd_nil e) M.checks d

-- a list of generators, and the qubit that was pruned by it
pub record Cut : Type 0 where
  pub list : List ℕ
  pub pruned : ℕ

-- none of the products holds q
abbrev pub Avoids : Meaning → ℕ → List Cut → Type 0
Avoids M q [] = Unit {0}
Avoids M q (g ∷ G) = (has (product M g.list) q ≡ false) × Avoids M q G

module _ (M : Meaning) (sound : Sound M) where
  pub product_long : (l : List ℕ) → Named M l → length (product M l) ≡ qubits M
  product_long [] h = length-replicate (qubits M) false
  product_long (g ∷ l) h = length_over flip (row M.generators g) (product M l) (qubits M) (sound.generators_range (row M.generators g) (row_of M.generators g h.0)) (product_long l h.1)

  -- a product of generators is even on every check
  pub product_even : (l : List ℕ) → Named M l → (d : ℕ) → odd (row M.checks d) (product M l) ≡ false
  product_even [] h d = odd_empty (row M.checks d) (qubits M)
  product_even (g ∷ l) h d =
      odd_plus (row M.checks d) (row M.generators g) (product M l)
      ∙ ap (λ t. flip t (odd (row M.checks d) (product M l))) (go (row_in M.checks d))
      ∙ product_even l h.1 d
    where
      go : In (row M.checks d) M.checks ⊎ (row M.checks d ≡ []) → odd (row M.checks d) (row M.generators g) ≡ false
      go (inl m) = sound.even (row M.checks d) (row M.generators g) m (row_of M.generators g h.0)
      go (inr e) = ap (λ c. odd c (row M.generators g)) e ∙ odd_nil (row M.generators g)

  pub named_append : (k l : List ℕ) → Named M k → Named M l → Named M (k ++ l)
  named_append [] l p q = q
  named_append (g ∷ k) l p q = (p.0, named_append k l p.1 q)

  pub product_append : (k l : List ℕ) (i : ℕ) → has (product M (k ++ l)) i ≡ flip (has (product M k) i) (has (product M l) i)
  product_append [] l i = sym (ap (λ t. flip t (has (product M l) i)) (has_empty (qubits M) i))
  product_append (g ∷ k) l i =
      has_plus (row M.generators g) (product M (k ++ l)) i
      ∙ ap (flip (has (row M.generators g) i)) (product_append k l i)
      ∙ sym (flip_assoc (has (row M.generators g) i) (has (product M k) i) (has (product M l) i))
      ∙ ap (λ t. flip t (has (product M l) i)) (sym (has_plus (row M.generators g) (product M k) i))

  -- What was pruned, the oldest first: each a product of generators inside the lost qubits, which holds its pruned qubit; no later one
  -- holds that qubit, and it is not left any more
  abbrev pub Chain : (ℕ → Bool) → (ℕ → Bool) → List Cut → Type 0
  Chain lost U [] = Unit {0}
  Chain lost U (g ∷ G) =
      (Named M g.list × ((i : ℕ) → has (product M g.list) i ≡ true → lost i ≡ true) × (has (product M g.list) g.pruned ≡ true) × (U g.pruned ≡ false) × Avoids M g.pruned G)
      × Chain lost U G

  pub chain_less : (lost U V : ℕ → Bool) (G : List Cut) → ((i : ℕ) → U i ≡ false → V i ≡ false) → Chain lost U G → Chain lost V G
  chain_less lost U V [] f c = tt
  chain_less lost U V (g ∷ G) f c = ((c.0.0, c.0.1, c.0.2, f g.pruned c.0.3, c.0.4), chain_less lost U V G f c.1)

  avoids_snoc : (q : ℕ) (G : List Cut) (x : Cut) → Avoids M q G → has (product M x.list) q ≡ false → Avoids M q (G ++ (x ∷ []))
  avoids_snoc q [] x a e = (e, tt)
  avoids_snoc q (g ∷ G) x a e = (a.0, avoids_snoc q G x a.1 e)

  pub chain_snoc : (lost U : ℕ → Bool) (G : List Cut) (x : Cut) → Chain lost U G → Named M x.list → ((i : ℕ) → has (product M x.list) i ≡ true → U i ≡ true) → ((i : ℕ) → U i ≡ true → lost i ≡ true)
      → has (product M x.list) x.pruned ≡ true → Chain lost (λ i. U i && not (eqb x.pruned i)) (G ++ (x ∷ []))
  chain_snoc lost U [] x c m u l h = ((m, λ i e. l i (u i e), h, ap (λ b. U x.pruned && not b) (eqb_same x.pruned) ∙ and_false (U x.pruned), tt), tt)
    where
      and_false : (b : Bool) → (b && false) ≡ false
      and_false true = refl
      and_false false = refl
  chain_snoc lost U (g ∷ G) x c m u l h = (
    (c.0.0, c.0.1, c.0.2, ap (λ b. b && not (eqb x.pruned g.pruned)) c.0.3, avoids_snoc g.pruned G x c.0.4 (false_from_ne_true (has (product M x.list) g.pruned) (λ e. clash (u g.pruned e) c.0.3))),
    chain_snoc lost U G x c.1 m u l h,
  )

  module _ (R : Report) (for : For M R) where
    pub fits_res : (y : List Bool) → Fits M R y → Res (qubits M) M.checks (has R.lost) (has R.odds) y
    fits_res y f =
        record {
          under = record { long = within_length y R.lost f.lost ∙ for.lost_range; inside = within_has y R.lost f.lost };
          told = λ d. sym (has_syndrome M y d) ∙ ap (λ t. has t d) f.explains;
        }

    pub res_fits : (y : List Bool) → Res (qubits M) M.checks (has R.lost) (has R.odds) y → Fits M R y
    res_fits y r =
        record {
          lost = has_within y R.lost (r.under.long ∙ sym for.lost_range) r.under.inside;
          explains = ext (syndrome M y) R.odds (length-map M.checks (λ c. odd c y) ∙ sym for.odds_range) (λ d. has_syndrome M y d ∙ r.told d);
        }

    -- U: what is erased or shelved; X: what is flipped; s: the odd checks; p, c: pruned and chosen
    pub record Core (U : ℕ → Bool) (X : List Bool) (s : ℕ → Bool) (p c : ℕ) : Type 0 where
      pub long : length X ≡ qubits M
      pub lost : (i : ℕ) → has X i ≡ true → has R.lost i ≡ true
      pub still : (i : ℕ) → U i ≡ true → has R.lost i ≡ true
      pub told : (d : ℕ) → flip (odd (row M.checks d) X) (s d) ≡ has R.odds d
      pub counts : (N : ℕ) → Exactly N (Res (qubits M) M.checks U s) → Exactly (2 ^ (p + c) * N) (Fits M R)
      pub cuts : List Cut
      pub chain : Chain (has R.lost) U cuts
      pub cuts_many : length cuts ≡ p

    pub core_cong : {U V : ℕ → Bool} {X : List Bool} {s t : ℕ → Bool} {p c : ℕ} → ((i : ℕ) → U i ≡ V i) → ((d : ℕ) → s d ≡ t d) → Core U X s p c → Core V X t p c
    core_cong {U} {V} {X} {s} {t} {p} {c} u e h =
        record {
          long = h.long;
          lost = h.lost;
          still = λ i v. h.still i (u i ∙ v);
          told = λ d. ap (flip (odd (row M.checks d) X)) (sym (e d)) ∙ h.told d;
          counts = λ N E. h.counts N (exactly_iff N (λ y. (res_cong (qubits M) M.checks (λ i. sym (u i)) (λ d. sym (e d)) y, res_cong (qubits M) M.checks u e y)) E);
          cuts = h.cuts;
          chain = chain_less (has R.lost) U V h.cuts (λ i q. sym (u i) ∙ q) h.chain;
          cuts_many = h.cuts_many;
        }

    -- where nothing is left that explains the odd checks, nothing fits
    pub hopeless : {U : ℕ → Bool} {X : List Bool} {s : ℕ → Bool} {p c : ℕ} → Core U X s p c → ((y : List Bool) → ¬ Res (qubits M) M.checks U s y) → (e : List Bool) → ¬ Fits M R e
    hopeless {U} {X} {s} {p} {c} h n e f = none_of (subst (λ (t : ℕ). Exactly t (Fits M R)) (mul-zero (2 ^ (p + c))) (h.counts 0 (exactly_none n))) e f

    module _ {U : ℕ → Bool} {X : List Bool} {s : ℕ → Bool} {p c : ℕ} (h : Core U X s p c)
        (K T : ℕ → Bool)
        (sub : (i : ℕ) → K i ≡ true → U i ≡ true)
        (apart : (d : ℕ) → T d ≡ true → (i : ℕ) → has (row M.checks d) i ≡ true → rest U K i ≡ true → ⊥)
        (fill : (h : List Bool) → Under (qubits M) K h → ((d : ℕ) → T d ≡ true → odd (row M.checks d) h ≡ false)
        → (w : List Bool) × Under (qubits M) (rest U K) w × ((d : ℕ) → odd (row M.checks d) w ≡ odd (row M.checks d) h))
        (z : List Bool) (solves : Sys (qubits M) M.checks K T s z) (k : ℕ) (many : Exactly (2 ^ k) (Sys (qubits M) M.checks K T s))
      where
        pub core_step : (p' c' : ℕ) → p' + c' ≡ (p + c) + k
            → (G : List Cut) → Chain (has R.lost) (rest U K) G → length G ≡ p'
            → Core (rest U K) (plus X z) (turned (qubits M) M.checks s z) p' c'
        core_step p' c' e G chain many-cuts =
            record {
              long = length_over flip X z (qubits M) h.long solves.under.long;
              lost = λ i q. inside i (flip_cases (has X i) (has z i) (sym (has_plus X z i) ∙ q));
              still = λ i q. h.still i (and_parts (U i) (not (K i)) q).0;
              told = λ d. ap (λ t. flip t (flip (s d) (odd (row M.checks d) z))) (odd_plus (row M.checks d) X z)
                  ∙ flip_four (odd (row M.checks d) X) (odd (row M.checks d) z) (s d) (odd (row M.checks d) z)
                  ∙ ap (flip (flip (odd (row M.checks d) X) (s d))) (flip_self (odd (row M.checks d) z))
                  ∙ flip_false (flip (odd (row M.checks d) X) (s d))
                  ∙ h.told d;
              counts = λ N E. subst (λ (t : ℕ). Exactly t (Fits M R)) (number N) (h.counts (2 ^ k * N) (split (qubits M) M.checks U s K T sub apart fill z (2 ^ k) N solves many E));
              cuts = G;
              chain = chain;
              cuts_many = many-cuts;
            }
          where
            inside : (i : ℕ) → (has X i ≡ true) ⊎ (has z i ≡ true) → has R.lost i ≡ true
            inside i (inl q) = h.lost i q
            inside i (inr q) = h.still i (sub i (solves.under.inside i q))

            number : (N : ℕ) → 2 ^ (p + c) * (2 ^ k * N) ≡ 2 ^ (p' + c') * N
            number N = sym (mul_assoc (2 ^ (p + c)) (2 ^ k) N) ∙ ap (λ (t : ℕ). t * N) (sym (pow-add 2 (p + c) k) ∙ ap (λ (t : ℕ). 2 ^ t) (sym e))

        -- a solution is flipped, and chosen grows by the slack
        pub core_flip : Core (rest U K) (plus X z) (turned (qubits M) M.checks s z) (p + 0) (c + k)
        core_flip = core_step (p + 0) (c + k) (omega arith) h.cuts (chain_less (has R.lost) U (rest U K) h.cuts (λ i e. ap (λ b. b && not (K i)) e) h.chain) (omega (arith, h.cuts_many))
