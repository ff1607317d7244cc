-- What copy-out writes.
use Rattle.std.proofs.Common.{◌≡◌, ℕ, ◌-◌, ◌<◌, ◌≤◌, false, List, [], ◌∷◌, ◌++◌, map, length, get_or, drop, ap, ◌∙◌, arith, length-append, length-drop, ltb-false}
use lib.ListN.{length-map}
use Rattle.std.proofs.lemmas.List.{get_or_append_left, get_or-append_right, get_or-drop, get_or-map}
use Rattle.sets.specs.Sets.{has}
use Rattle.meaning.specs.Meaning.{Meaning, qubits}
use Rattle.rules.specs.States.{State}
use Rattle.rules.specs.Refusing.{too_short}
use Rattle.rules.specs.Tallies.{byte}
use Rattle.rules.specs.Companions.{Copied, CopiesOut}
use Rattle.rules.proofs.Bars.{accepted, allowed}

module _ (M : Meaning) (s : State) (buffer : List ℕ) (long : length s.flipped ≡ qubits M) (fits : qubits M ≤ length buffer) where
  abbrev written : List ℕ
  written = map byte s.flipped ++ drop (qubits M) buffer

  front : length (map byte s.flipped) ≡ qubits M
  front = length-map s.flipped byte ∙ long

  at_qubit : (q : ℕ) → q < qubits M → get_or written q 0 ≡ byte (has s.flipped q)
  at_qubit q h =
      get_or_append_left (map byte s.flipped) (drop (qubits M) buffer) 0 q (omega (arith, front))
      ∙ get_or-map byte s.flipped q false 0 (omega (arith, long))

  past : (i : ℕ) → qubits M ≤ i → get_or written i 0 ≡ get_or buffer i 0
  past i h =
      get_or-append_right (map byte s.flipped) (drop (qubits M) buffer) (qubits M) i 0 front h
      ∙ get_or-drop (qubits M) buffer (i - qubits M) 0
      ∙ ap (λ (k : ℕ). get_or buffer k 0) (omega arith)

  copied : Copied M s buffer written
  copied =
      record {
        one = λ q h e. at_qubit q h ∙ ap byte e;
        nought = λ q h e. at_qubit q h ∙ ap byte e;
        others = past;
        same_length = length-append (map byte s.flipped) (drop (qubits M) buffer) ∙ omega (arith, front, length-drop (qubits M) buffer);
      }

pub copies_out : CopiesOut
copies_out M s buffer long e =
    let c = accepted (too_short M buffer ∷ []) buffer _ tt e in
    allowed (too_short M buffer ∷ []) buffer _ (Copied M s buffer) c (copied M s buffer long (ltb-false (length buffer) (qubits M) c.0))
