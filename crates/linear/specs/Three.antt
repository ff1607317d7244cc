-- The field with the three values 0, 1 and 2, added and multiplied modulo 3.
use Rattle.std.specs.Prelude.{refl, Bool, true, false, [], ◌∷◌}
use Rattle.std.proofs.Common.{inl, inr}
use Rattle.std.proofs.lemmas.Bool.{false≢true}
use Rattle.linear.specs.Field.{Field}

pub data Three : Type 0 where
  Z O T : Three

-- one more
abbrev pub up : Three → Three
up Z = O
up O = T
up T = Z

abbrev pub plus : Three → Three → Three
plus Z b = b
plus O b = up b
plus T b = up (up b)

abbrev pub minus : Three → Three
minus Z = Z
minus O = T
minus T = O

abbrev pub times : Three → Three → Three
times Z b = Z
times O b = b
times T b = minus b

abbrev is_z : Three → Bool
is_z Z = true
is_z O = false
is_z T = false

-- a and b are equal if their difference is zero
abbrev pub equal : Three → Three → Bool
equal a b = is_z (plus a (minus b))

-- each of 1 and 2 is its own inverse
abbrev pub three : Field Three
three =
    record {
      zer = Z;
      one = O;
      add = plus;
      mul = times;
      neg = minus;
      inv = λ a. a;
      is = equal;
      rest = O ∷ T ∷ [];
      add_assoc = elim [
        | Z ↦ elim [
          | Z ↦ elim [ Z ↦ refl | O ↦ refl | T ↦ refl ]
          | O ↦ elim [ Z ↦ refl | O ↦ refl | T ↦ refl ]
          | T ↦ elim [ Z ↦ refl | O ↦ refl | T ↦ refl ]
        ]
        | O ↦ elim [
          | Z ↦ elim [ Z ↦ refl | O ↦ refl | T ↦ refl ]
          | O ↦ elim [ Z ↦ refl | O ↦ refl | T ↦ refl ]
          | T ↦ elim [ Z ↦ refl | O ↦ refl | T ↦ refl ]
        ]
        | T ↦ elim [
          | Z ↦ elim [ Z ↦ refl | O ↦ refl | T ↦ refl ]
          | O ↦ elim [ Z ↦ refl | O ↦ refl | T ↦ refl ]
          | T ↦ elim [ Z ↦ refl | O ↦ refl | T ↦ refl ]
        ]
      ];
      add_comm = elim [
        | Z ↦ elim [ Z ↦ refl | O ↦ refl | T ↦ refl ]
        | O ↦ elim [ Z ↦ refl | O ↦ refl | T ↦ refl ]
        | T ↦ elim [ Z ↦ refl | O ↦ refl | T ↦ refl ]
      ];
      add_zer = elim [ Z ↦ refl | O ↦ refl | T ↦ refl ];
      add_neg = elim [ Z ↦ refl | O ↦ refl | T ↦ refl ];
      mul_assoc = elim [
        | Z ↦ elim [
          | Z ↦ elim [ Z ↦ refl | O ↦ refl | T ↦ refl ]
          | O ↦ elim [ Z ↦ refl | O ↦ refl | T ↦ refl ]
          | T ↦ elim [ Z ↦ refl | O ↦ refl | T ↦ refl ]
        ]
        | O ↦ elim [
          | Z ↦ elim [ Z ↦ refl | O ↦ refl | T ↦ refl ]
          | O ↦ elim [ Z ↦ refl | O ↦ refl | T ↦ refl ]
          | T ↦ elim [ Z ↦ refl | O ↦ refl | T ↦ refl ]
        ]
        | T ↦ elim [
          | Z ↦ elim [ Z ↦ refl | O ↦ refl | T ↦ refl ]
          | O ↦ elim [ Z ↦ refl | O ↦ refl | T ↦ refl ]
          | T ↦ elim [ Z ↦ refl | O ↦ refl | T ↦ refl ]
        ]
      ];
      mul_comm = elim [
        | Z ↦ elim [ Z ↦ refl | O ↦ refl | T ↦ refl ]
        | O ↦ elim [ Z ↦ refl | O ↦ refl | T ↦ refl ]
        | T ↦ elim [ Z ↦ refl | O ↦ refl | T ↦ refl ]
      ];
      mul_one = elim [ Z ↦ refl | O ↦ refl | T ↦ refl ];
      mul_add = elim [
        | Z ↦ elim [
          | Z ↦ elim [ Z ↦ refl | O ↦ refl | T ↦ refl ]
          | O ↦ elim [ Z ↦ refl | O ↦ refl | T ↦ refl ]
          | T ↦ elim [ Z ↦ refl | O ↦ refl | T ↦ refl ]
        ]
        | O ↦ elim [
          | Z ↦ elim [ Z ↦ refl | O ↦ refl | T ↦ refl ]
          | O ↦ elim [ Z ↦ refl | O ↦ refl | T ↦ refl ]
          | T ↦ elim [ Z ↦ refl | O ↦ refl | T ↦ refl ]
        ]
        | T ↦ elim [
          | Z ↦ elim [ Z ↦ refl | O ↦ refl | T ↦ refl ]
          | O ↦ elim [ Z ↦ refl | O ↦ refl | T ↦ refl ]
          | T ↦ elim [ Z ↦ refl | O ↦ refl | T ↦ refl ]
        ]
      ];
      mul_inv = elim [ Z ↦ inl refl | O ↦ inr refl | T ↦ inr refl ];
      is_refl = elim [ Z ↦ refl | O ↦ refl | T ↦ refl ];
      is_eq = elim [
        | Z ↦ elim [ Z ↦ λ e. refl | O ↦ λ e. absurd (false≢true e) | T ↦ λ e. absurd (false≢true e) ]
        | O ↦ elim [ Z ↦ λ e. absurd (false≢true e) | O ↦ λ e. refl | T ↦ λ e. absurd (false≢true e) ]
        | T ↦ elim [ Z ↦ λ e. absurd (false≢true e) | O ↦ λ e. absurd (false≢true e) | T ↦ λ e. refl ]
      ];
      distinct = (λ m. elim m [ inl e ↦ false≢true (λ i. is_z (plus (e i) T)) | inr m' ↦ elim m' [ inl e ↦ false≢true (λ i. is_z (plus (e i) O)) | inr n ↦ n ] ], (λ m. elim m [ inl e ↦ false≢true (λ i. is_z (plus (e i) O)) | inr n ↦ n ], (λ n. n, tt)));
      complete = elim [ Z ↦ inl refl | O ↦ inr (inl refl) | T ↦ inr (inr (inl refl)) ];
    }
