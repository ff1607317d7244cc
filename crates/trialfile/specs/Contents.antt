-- What a file says, and that it is within all limits.
use Rattle.std.specs.Prelude.{◌≡◌, ℕ, ◌+◌, ◌*◌, true, false, ◌⊎◌, List, length, None, Ok, Err, Result, nat_lt, if◌then◌else◌}
use Rattle.meaning.specs.Meaning.{Meaning, qubits}
use Rattle.meaning.specs.Product.{product_code}
use Rattle.product.specs.declared.place.Place.{Place}
use Rattle.product.specs.Seed.{seed_fault, seed_of}
use Rattle.rules.specs.Reports.{rises, some_past}
use Rattle.tokens.specs.Tokens.{Rest, all_of}
use Rattle.trialfile.specs.declared.fault.SectionFault.{SectionFault}
use Rattle.trialfile.specs.declared.fault.SectionFault.TheVariants.{NoMemory}
use Rattle.trialfile.specs.declared.fault.FileFault.{FileFault}
use Rattle.trialfile.specs.declared.fault.FileFault.TheVariants.{TooLong, Section}
use Rattle.trialfile.specs.declared.file.TrialFile.{TrialFile}
use Rattle.trialfile.specs.declared.kind.Kind.TheVariants.{Lost, Odd}
use Rattle.trialfile.specs.Faults.{longest}
use Rattle.trialfile.specs.Reading.{Reading, gives, and_then, end_of_file}
use Rattle.trialfile.specs.Sections.{sizes, ones, list, switches}

-- the sizes of a seed and the places of its ones, the lost qubits and the odd checks of a report, and the switches of a run
pub record Contents : Type 0 where
  pub rows : ℕ
  pub columns : ℕ
  pub ones : List Place
  pub lost : List ℕ
  pub odd : List ℕ
  pub switches : ℕ

-- the sections in their order, and nothing after them
abbrev pub contents : Reading Contents
contents =
    and_then sizes (λ s.
    and_then (ones s.0 s.1) (λ o.
    and_then (list Lost (s.1 * s.1 + s.0 * s.0)) (λ l.
    and_then (list Odd (s.1 * s.0)) (λ d.
    and_then switches (λ w.
    and_then end_of_file (λ _.
    gives (record { rows = s.0; columns = s.1; ones = o; lost = l; odd = d; switches = w })))))))

-- what a file says, or its first fault; of a file that is too long nothing is read
abbrev pub of_file : Result (Contents × Rest) SectionFault → Result Contents FileFault
of_file (Ok c) = Ok c.0
of_file (Err e) = Err (Section e)

abbrev pub file_says : List ℕ → Result Contents FileFault
file_says file = if nat_lt longest (length file) then Err TooLong else of_file (contents (all_of file))

-- the same of what the program has read
abbrev pub contents_of : TrialFile → Contents
contents_of f =
    record {
      rows = f.sizes.rows;
      columns = f.sizes.columns;
      ones = f.ones.items;
      lost = f.lost.items;
      odd = f.odd.items;
      switches = f.switches;
    }

-- the program's answer is what the file says; or memory was wanting
abbrev pub SaysUnlessMemory : Result TrialFile FileFault → Result Contents FileFault → Type 0
SaysUnlessMemory (Ok f) told = Ok (contents_of f) ≡ told
SaysUnlessMemory (Err e) told = (e ≡ Section NoMemory) ⊎ (Err e ≡ told)

-- the product code of the seed
abbrev pub code_of : Contents → Meaning
code_of c = product_code c.rows c.columns (seed_of c.rows c.columns c.ones)

-- the seed makes a code, an opening of a trial on it finds no fault in the report, and the switches name stages of a run
pub record WithinLimits (c : Contents) : Type 0 where
  pub seed : seed_fault c.rows c.columns c.ones ≡ None
  pub lost_qubits : some_past (qubits (code_of c)) c.lost ≡ false
  pub lost_rise : rises c.lost ≡ true
  pub odd_checks : some_past (length (code_of c).checks) c.odd ≡ false
  pub odd_rise : rises c.odd ≡ true
  pub stages : nat_lt 15 c.switches ≡ false
