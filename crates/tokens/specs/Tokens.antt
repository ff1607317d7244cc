-- Tokens: runs of bytes between separators, which are words and numbers; and the end.
use Rattle.std.specs.Prelude.{ℕ, ◌+◌, ◌-◌, ◌*◌, Bool, not, ◌||◌, List, length, drop, Ok, Err, Result, codes, ◌==◌, nat_lt, fold, if◌then◌else◌}
use Rattle.std.specs.List.{position_or_len, before_first, list_all}
use Rattle.std.specs.Char.{is_ascii_digit, is_ascii_lowercase}
use Rattle.tokens.specs.declared.section.Section.{Section}
use Rattle.tokens.specs.declared.section.Section.TheVariants.{Seed, Ones, Erased, Odd, Stages, End, File}
use Rattle.tokens.specs.declared.section.Spot.{Spot}
use Rattle.tokens.specs.declared.token.Token.{Token}
use Rattle.tokens.specs.declared.token.Token.TheVariants as token
use Rattle.tokens.specs.declared.token.Found.{Found}
use Rattle.tokens.specs.declared.fault.TokenFault.{TokenFault}
use Rattle.tokens.specs.declared.fault.TokenFault.TheVariants.{Mixed, TooManyDigits}

-- the word of a section, and what a refusal calls the end and the whole file
abbrev pub word_of : Section → List ℕ
word_of Seed = codes "seed"
word_of Ones = codes "ones"
word_of Erased = codes "erased"
word_of Odd = codes "odd"
word_of Stages = codes "stages"
word_of End = codes "end"
word_of File = codes "file"

-- separators are the space and the newline; any other byte fills a run
abbrev pub is_separator : ℕ → Bool
is_separator b = b == 32 || b == 10

abbrev pub is_filled : ℕ → Bool
is_filled b = not (is_separator b)

-- what is left of a file: the place that is reached, and the bytes from there on
pub record Rest : Type 0 where
  pub place : ℕ
  pub bytes : List ℕ

abbrev pub all_of : List ℕ → Rest
all_of file = record { place = 0; bytes = file }

-- what is left after n more bytes
abbrev pub past : ℕ → Rest → Rest
past n r = record { place = r.place + n; bytes = drop n r.bytes }

-- where the next run starts; and the run, which is empty at the end alone
abbrev pub at_run : Rest → Rest
at_run r = past (position_or_len is_filled r.bytes) r

abbrev pub run : Rest → List ℕ
run r = before_first is_separator (at_run r).bytes

-- what a token says: a word with its letters, a number, or that the file ends
pub data Said : Type 0 where
  word : List ℕ → Said
  number : ℕ → Said
  end : Said

-- the number that decimal digits write
abbrev pub value_of : List ℕ → ℕ
value_of digits = fold (λ n d. 10 * n + (d - 48)) 0 digits

-- a run of letters a to z is a word, one to four digits are a number, and any other run is no token
abbrev pub token_at : Spot → List ℕ → Result Said TokenFault
token_at s l =
    if length l == 0 then Ok end
    else (if list_all is_ascii_lowercase l then Ok (word l)
    else (if not (list_all is_ascii_digit l) then Err (Mixed s)
    else (if nat_lt 4 (length l) then Err (TooManyDigits s)
    else Ok (number (value_of l)))))

-- the next token and its spot, where a is awaited; and what is left after it
abbrev pub spot : Section → Rest → Spot
spot a r = record { section = a; place = (at_run r).place }

abbrev pub with_spot : Spot → Result Said TokenFault → Result (Said × Spot) TokenFault
with_spot s (Ok t) = Ok (t, s)
with_spot s (Err e) = Err e

abbrev pub next_token : Section → Rest → Result (Said × Spot) TokenFault
next_token a r = with_spot (spot a r) (token_at (spot a r) (run r))

abbrev pub after_token : Rest → Rest
after_token r = past (length (run r)) (at_run r)

-- what the tokens of the program say
abbrev pub said : Token → Said
said (token.Word w) = word w.now
said (token.Number n) = number n
said token.End = end

abbrev pub said_of : Result Token TokenFault → Result Said TokenFault
said_of (Ok t) = Ok (said t)
said_of (Err e) = Err e

abbrev pub found_of : Result Found TokenFault → Result (Said × Spot) TokenFault
found_of (Ok f) = Ok (said f.token, f.spot)
found_of (Err e) = Err e

-- where the run of a fault starts
abbrev pub spot_of : TokenFault → Spot
spot_of (Mixed s) = s
spot_of (TooManyDigits s) = s
