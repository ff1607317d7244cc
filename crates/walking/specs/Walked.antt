-- What a walk answers, and what is then told.
use Rattle.std.specs.Prelude.{ℕ, Bool, not, ◌&&◌, ◌==◌, List, [], ◌∷◌, length, Ok, Result}
use Rattle.terms.specs.declared.refusal.Refusal.{Refusal}
use Rattle.terms.specs.declared.refusal.Refusal.TheVariants.{NothingErased}
use Rattle.sets.specs.Sets.{has, elements}
use Rattle.meaning.specs.Meaning.{Meaning, qubits}
use Rattle.rules.specs.Refusing.{Bar, bar, unless, too_short, in_use}
use Rattle.rules.specs.Clusters.{cluster, connecting, internal}
use Rattle.rules.specs.declared.answers.Status.{Status}
use Rattle.table.specs.OfTable.{meaning_of}
use Rattle.table.specs.declared.Table.{Table}
use Rattle.upkeep.specs.Statuses.{erased_of}
use Rattle.walking.specs.Found.{told}
use Rattle.walking.specs.Seen.{seen}
use Rattle.walking.specs.declared.found.Connecting.{Connecting}

-- what is seen of a walker: its table, and of the cluster that was walked last the qubits and the internal checks, each rising
pub record Findings : Type 0 where
  pub table : Table
  pub members : List ℕ
  pub internal : List ℕ

-- whether there is a status for each qubit and a mark for each check, and q is erased
abbrev pub suits : Meaning → List Status → List Bool → ℕ → Bool
suits M status closed q = (length status == qubits M) && (length closed == length M.checks) && has (erased_of status) q

-- why a walk from q is refused, if it is
abbrev pub walk_bars : Meaning → List Status → List Bool → ℕ → List ℕ → List Bar
walk_bars M status closed q scratch = too_short M scratch ∷ in_use M scratch ∷ bar (not (suits M status closed q)) NothingErased ∷ []

-- the cluster of q and its internal checks are found, and its connecting checks are told
abbrev pub walked : List Status → List Bool → ℕ → List ℕ → Findings → Result Connecting Refusal × Findings
walked status closed q scratch w =
    let M = meaning_of w.table in
    let s = seen (erased_of status) closed in
    let K = cluster M s q in
    unless (walk_bars M status closed q scratch) w (Ok (told (connecting M s q K)), record { table = w.table; members = elements K; internal = elements (internal M s q K) })
