-- What a host is answered, and what its buffer then holds.
use Rattle.std.specs.Prelude.{◌≡◌, ◌<◌, ℕ, cond, ◌⊎◌, List, ◌++◌, length, drop, nat_lt}
use Rattle.filedecode.specs.Printed.{printed, TrueOfFile}

-- how many bytes a buffer has to have: the lines of each file fit
abbrev pub least_room : ℕ
least_room = 65536

-- a text over the first bytes of a buffer; the others keep their values
abbrev pub written_over : List ℕ → List ℕ → List ℕ
written_over text buffer = text ++ drop (length text) buffer

-- 0 for a buffer that is too short, which stays as it was; else the length of the lines, which are written
abbrev pub hosted : List ℕ → List ℕ → ℕ × List ℕ
hosted file buffer = cond (nat_lt (length buffer) least_room) (0, buffer) (length (printed file), written_over (printed file) buffer)

-- the answer and the later buffer are those; or memory was wanting, and then the answer is 0 and the buffer as it was
abbrev pub HostsUnlessMemory : ℕ → List ℕ → List ℕ → ℕ × List ℕ → Type 0
HostsUnlessMemory count before after told = ((count, after) ≡ told) ⊎ ((count ≡ 0) × (after ≡ before))

-- lines that were written are true of the report that the file states
abbrev pub WritesTruth : List ℕ → ℕ → Type 0
WritesTruth file count = 0 < count → TrueOfFile file
