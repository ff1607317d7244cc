-- A walk goes on.
use Rattle.std.proofs.Common.{ℕ, List, ◌∙◌}
use Rattle.meaning.specs.Meaning.{Meaning}
use Rattle.rules.specs.States.{State}
use Rattle.walking.specs.Steps.{Touched, Onward}
use Rattle.walking.specs.declared.ground.Ground.{Ground}

pub onward_then : (n : ℕ) (m : List ℕ) (g : Ground) (n1 : ℕ) (m1 : List ℕ) (g1 : Ground) (n2 : ℕ) (m2 : List ℕ) (g2 : Ground) → Onward n m g n1 m1 g1 → Onward n1 m1 g1 n2 m2 g2 → Onward n m g n2 m2 g2
onward_then n m g n1 m1 g1 n2 m2 g2 a b = record {
  size = b.size ∙ a.size;
  members = b.members ∙ a.members;
  met = λ d h. b.met d (a.met d h);
  kept = λ k h. b.kept k (a.kept k h);
  long = b.long ∙ a.long;
  beyond = b.beyond ∙ a.beyond;
}

pub still_touched : (M : Meaning) (s : State) (n : ℕ) (m : List ℕ) (g : Ground) (n' : ℕ) (m' : List ℕ) (g' : Ground) → Onward n m g n' m' g' → (d : ℕ) → Touched M s n m d → Touched M s n' m' d
still_touched M s n m g n' m' g' o d t = record { is_open = t.is_open; qubit = t.qubit; holds = t.holds; is_in = o.kept t.qubit t.is_in }
