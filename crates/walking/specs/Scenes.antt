-- What a walk looks at, as the rules have it; and how far it has come, said of the memory that it works in.
use Rattle.std.specs.Prelude.{◌≡◌, ℕ, Bool, true, List}
use Rattle.sets.specs.Sets.{has, row}
use Rattle.meaning.specs.Meaning.{Meaning}
use Rattle.rules.specs.Clusters.{same_side, other_side, cluster}
use Rattle.rules.specs.States.{State}
use Rattle.table.specs.OfTable.{meaning_of}
use Rattle.upkeep.specs.Statuses.{erased_of}
use Rattle.marks.specs.Marks.{is_marked}
use Rattle.marks.specs.declared.Marks.{Marks}
use Rattle.walking.specs.Seen.{seen}
use Rattle.walking.specs.Steps.{Walk, Touched, Onward, Same, Visited, Over}
use Rattle.walking.specs.declared.ground.Ground.{Ground}
use Rattle.walking.specs.declared.scene.Scene.{Scene}

abbrev pub code_of : Scene → Meaning
code_of v = meaning_of v.table.now

abbrev pub state_of : Scene → State
state_of v = seen (erased_of v.status.now) v.closed.now

-- the erased qubits on the side of the start, and on the other side
abbrev pub beside : Scene → List Bool
beside v = same_side (code_of v) (state_of v) v.start

abbrev pub across : Scene → List Bool
across v = other_side (code_of v) (state_of v) v.start

-- the cluster of the start
abbrev pub cluster_of : Scene → List Bool
cluster_of v = cluster (code_of v) (state_of v) v.start

-- a walk is under way, and a walk is over
abbrev pub Going : Scene → Marks → Ground → Type 0
Going v k g = Walk (code_of v) (state_of v) v.start k.qubits k.scratch.now g

abbrev pub Ended : Scene → Marks → Ground → Type 0
Ended v k g = Over (code_of v) (state_of v) v.start k.qubits k.scratch.now g

-- a check is open and holds a marked qubit; all open checks of a qubit are met
abbrev pub IsTouched : Scene → Marks → ℕ → Type 0
IsTouched v k d = Touched (code_of v) (state_of v) k.qubits k.scratch.now d

abbrev pub IsVisited : Scene → Ground → ℕ → Type 0
IsVisited v g i = Visited (code_of v) (state_of v) g i

-- the qubits of a check that are to be marked are marked
abbrev pub IsSwept : Scene → Marks → ℕ → Type 0
IsSwept v k d = (i : ℕ) → has (row (code_of v).checks d) i ≡ true → has (beside v) i ≡ true → is_marked k.qubits k.scratch.now i ≡ true

-- a walk went on; other marks stand in the same bytes
abbrev pub WentOn : Marks → Ground → Marks → Ground → Type 0
WentOn k g k' g' = Onward k.qubits k.scratch.now g k'.qubits k'.scratch.now g'

abbrev pub SameBytes : Marks → Marks → Type 0
SameBytes k k' = Same k.qubits k.scratch.now k'.qubits k'.scratch.now
