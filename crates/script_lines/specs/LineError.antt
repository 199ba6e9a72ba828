-- The numbers of the refusals, and their words.
use Rattle.std.specs.Prelude.{ℕ, List, codes}
use Rattle.script_lines.specs.declared.error.LineError.{LineError}
use Rattle.script_lines.specs.declared.error.LineError.TheVariants.{Word, Count, Number, Range, Long, Byte}

-- the number that is printed after `refused`
abbrev pub refusal_number : LineError → ℕ
refusal_number Word = 1
refusal_number Count = 2
refusal_number Number = 3
refusal_number Range = 4
refusal_number Long = 5
refusal_number Byte = 6

-- what is wrong with the line, in words
abbrev pub error_text : LineError → List ℕ
error_text Word = codes "the first word isn't a command, or a fixed word isn't spelt so"
error_text Count = codes "the count of words isn't one that the command has"
error_text Number = codes "a word in a number's place isn't a number"
error_text Range = codes "a number is out of its range"
error_text Long = codes "the line has more than 300 bytes"
error_text Byte = codes "a byte of the line is outside 32 to 126"
