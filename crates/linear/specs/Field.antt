-- A finite field: the operations, their laws, a test for equality, and all values in order, zero first.
use Rattle.std.specs.Prelude.{◌≡◌, refl, ◌⊎◌, Bool, true, false, ◌&&◌, List, [], ◌∷◌}
use Rattle.std.proofs.Common.{inl, inr}
use Rattle.std.proofs.lemmas.Bool.{false≢true}
use Rattle.sets.specs.Bits.{flip, alike}
use Rattle.sets.specs.Lists.{In, Distinct}

pub record Field (F : Type 0) : Type 0 where
  pub zer : F
  pub one : F
  pub add : F → F → F
  pub mul : F → F → F
  pub neg : F → F
  pub inv : F → F
  pub is : F → F → Bool
  pub rest : List F
  pub add_assoc : (a b c : F) → add (add a b) c ≡ add a (add b c)
  pub add_comm : (a b : F) → add a b ≡ add b a
  pub add_zer : (a : F) → add a zer ≡ a
  pub add_neg : (a : F) → add a (neg a) ≡ zer
  pub mul_assoc : (a b c : F) → mul (mul a b) c ≡ mul a (mul b c)
  pub mul_comm : (a b : F) → mul a b ≡ mul b a
  pub mul_one : (a : F) → mul a one ≡ a
  pub mul_add : (a b c : F) → mul a (add b c) ≡ add (mul a b) (mul a c)
  pub mul_inv : (a : F) → (a ≡ zer) ⊎ (mul (inv a) a ≡ one)
  pub is_refl : (a : F) → is a a ≡ true
  pub is_eq : (a b : F) → is a b ≡ true → a ≡ b
  pub distinct : Distinct (zer ∷ rest)
  pub complete : (a : F) → In a (zer ∷ rest)

-- the field with the two values false and true
abbrev pub bits : Field Bool
bits =
    record {
      zer = false;
      one = true;
      add = flip;
      mul = ◌&&◌;
      neg = λ a. a;
      inv = λ a. a;
      is = alike;
      rest = true ∷ [];
      add_assoc = elim [ true ↦ elim [ true ↦ elim [ true ↦ refl | false ↦ refl ] | false ↦ λ c. refl ] | false ↦ λ b c. refl ];
      add_comm = elim [ true ↦ elim [ true ↦ refl | false ↦ refl ] | false ↦ elim [ true ↦ refl | false ↦ refl ] ];
      add_zer = elim [ true ↦ refl | false ↦ refl ];
      add_neg = elim [ true ↦ refl | false ↦ refl ];
      mul_assoc = elim [ true ↦ λ b c. refl | false ↦ λ b c. refl ];
      mul_comm = elim [ true ↦ elim [ true ↦ refl | false ↦ refl ] | false ↦ elim [ true ↦ refl | false ↦ refl ] ];
      mul_one = elim [ true ↦ refl | false ↦ refl ];
      mul_add = elim [ true ↦ λ b c. refl | false ↦ λ b c. refl ];
      mul_inv = elim [ true ↦ inr refl | false ↦ inl refl ];
      is_refl = elim [ true ↦ refl | false ↦ refl ];
      is_eq = elim [
        | true ↦ elim [ true ↦ λ e. refl | false ↦ λ e. absurd (false≢true e) ]
        | false ↦ elim [ true ↦ λ e. absurd (false≢true e) | false ↦ λ e. refl ]
      ];
      distinct = (λ m. elim m [ inl e ↦ false≢true e | inr m' ↦ m' ], (λ m. m, tt));
      complete = elim [ true ↦ inr (inl refl) | false ↦ inl refl ];
    }
