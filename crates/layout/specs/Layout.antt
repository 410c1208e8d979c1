-- The layout of a sheet: blocks of 512 bytes, and what is wrong with one.
use Rattle.std.specs.Prelude.{◌≡◌, ℕ, zero, suc, ◌+◌, ◌-◌, ◌*◌, ◌/◌, ◌%◌, Bool, true, not, ◌&&◌, if◌then◌else◌, List, [], ◌∷◌, length, Some, None, Option, Result, MatchResult, ◌==◌, nat_le, nat_lt, slice_index}
use Rattle.layout.specs.declared.letter.Letter.{Letter}
use Rattle.layout.specs.declared.letter.Letter.TheVariants.{Header, Lists, Rules, Cuts, End}
use Rattle.layout.specs.declared.letter.NoLetter.{NoLetter}
use Rattle.layout.specs.declared.fault.BlockFault.{BlockFault}
use Rattle.layout.specs.declared.fault.BlockFault.TheVariants.{Check, Position, Letter as WrongLetter, Count, Padding}
use Rattle.layout.specs.declared.fault.LayoutFault.{LayoutFault}
use Rattle.layout.specs.declared.fault.LayoutFault.TheVariants.{Length, Block}

-- the 16-bit and 32-bit little-endian numbers at an index
abbrev pub word : List ℕ → ℕ → ℕ
word s at = slice_index s at + 256 * slice_index s (at + 1)

abbrev pub long : List ℕ → ℕ → ℕ
long s at = word s at + 65536 * word s (at + 2)

-- the sum of (i + 1) × byte i for the i below n, counted from `at`
unfoldable pub weighted : List ℕ → ℕ → ℕ → ℕ
weighted s at zero = 0
weighted s at (suc i) = weighted s at i + (i + 1) * slice_index s (at + i)

-- whether the n bytes from `at` are zero
unfoldable pub zeros : List ℕ → ℕ → ℕ → Bool
zeros s at zero = true
zeros s at (suc n) = slice_index s at == 0 && zeros s (at + 1) n

-- the place of a block's letter in the order H, L, R, C, E; 5 for any other byte
abbrev pub rank : ℕ → ℕ
rank b =
    if b == 72 then 0
    else if b == 76 then 1
    else if b == 82 then 2
    else if b == 67 then 3
    else if b == 69 then 4
    else 5

-- the rank of a letter
abbrev pub rank_of : Letter → ℕ
rank_of Header = 0
rank_of Lists = 1
rank_of Rules = 2
rank_of Cuts = 3
rank_of End = 4

-- the rank of a letter, and 5 where there is none
abbrev pub option_rank : Option Letter → ℕ
option_rank None = 5
option_rank (Some letter) = rank_of letter

-- the result is the letter that a byte stands for, or the byte where it stands for none
abbrev pub IsLetterOf : ℕ → Result Letter NoLetter → Type 0
IsLetterOf b r = MatchResult r (λ letter. rank_of letter ≡ rank b) (λ e. (e.0 ≡ b) × (rank b ≡ 5))

-- the length of a record by the rank of its letter, and the most records in a block
abbrev pub record_length : ℕ → ℕ
record_length r = if r == 0 then 5 else if r == 1 then 24 else if r == 4 then 0 else 8

abbrev pub allows : ℕ → ℕ → Bool
allows r n =
    if r == 0 then n == 1
    else if r == 1 then nat_le n 21
    else if r == 4 then n == 0
    else nat_le n 63

-- whether a letter of rank r may stand at block k of n, after one of rank p
abbrev pub may_stand : ℕ → ℕ → ℕ → ℕ → Bool
may_stand n k p r =
    if k == 0 then r == 0 && nat_lt 1 n
    else if k + 1 == n then r == 4
    else nat_lt 0 r && nat_lt r 4 && nat_le p r

-- the first number whose test fails
abbrev pub first_failed : List (ℕ × Bool) → Option ℕ
first_failed [] = None
first_failed ((n, ok) ∷ rest) = if ok then first_failed rest else Some n

abbrev pub blocks : List ℕ → ℕ
blocks s = length s / 512

abbrev pub letter_rank_of : List ℕ → ℕ → ℕ
letter_rank_of s k = rank (slice_index s (512 * k))

abbrev pub records_of : List ℕ → ℕ → ℕ
records_of s k = slice_index s (512 * k + 1)

-- where the records of block k end
abbrev pub records_end : List ℕ → ℕ → ℕ
records_end s k = 4 + records_of s k * record_length (letter_rank_of s k)

-- the tests of block k
unfoldable pub right_check : List ℕ → ℕ → Bool
right_check s k = weighted s (512 * k) 508 == long s (512 * k + 508)

unfoldable pub right_position : List ℕ → ℕ → Bool
right_position s k = word s (512 * k + 2) == k

unfoldable pub right_letter : List ℕ → ℕ → Bool
right_letter s k = may_stand (blocks s) k (letter_rank_of s (k - 1)) (letter_rank_of s k)

unfoldable pub right_count : List ℕ → ℕ → Bool
right_count s k = allows (letter_rank_of s k) (records_of s k)

unfoldable pub right_padding : List ℕ → ℕ → Bool
right_padding s k = zeros s (512 * k + records_end s k) (508 - records_end s k)

unfoldable pub fault_in : List ℕ → ℕ → Option ℕ
fault_in s k = first_failed
    ((2, right_check s k)
    ∷ (3, right_position s k)
    ∷ (4, right_letter s k)
    ∷ (5, right_count s k)
    ∷ (6, right_padding s k)
    ∷ [])

-- the fault m at block k, or else what comes after
abbrev pub fault_or : Option ℕ → ℕ → Option (ℕ × ℕ) → Option (ℕ × ℕ)
fault_or None k rest = rest
fault_or (Some m) k rest = Some (m, k)

-- the first fault of the n blocks from k on: its number and its block
unfoldable pub fault_from : List ℕ → ℕ → ℕ → Option (ℕ × ℕ)
fault_from s k zero = None
fault_from s k (suc n) = fault_or (fault_in s k) k (fault_from s (k + 1) n)

abbrev pub right_length : ℕ → Bool
right_length n = not (n == 0) && nat_le n 32768 && n % 512 == 0

-- the first fault of a sheet's layout
unfoldable pub layout_refusal : List ℕ → Option (ℕ × ℕ)
layout_refusal s = if right_length (length s) then fault_from s 0 (blocks s) else Some (1, 0)

-- the number of a block's fault
abbrev pub block_code : BlockFault → ℕ
block_code Check = 2
block_code Position = 3
block_code WrongLetter = 4
block_code Count = 5
block_code Padding = 6

-- the number and the block of a layout's fault
abbrev pub layout_code : LayoutFault → ℕ × ℕ
layout_code Length = (1, 0)
layout_code (Block k f) = (block_code f, k)
