-- What a refusal means, in words.
use Rattle.std.specs.Prelude.{ℕ, List, codes}
use Rattle.marks.specs.declared.refusal.Refusal.{Refusal}
use Rattle.marks.specs.declared.refusal.Refusal.TheVariants.{BytesEnd, Malformed, OutsideLimit, NotAscending, FewRecords, BytesRemain, Width, Record, MarkTooHigh, FactStands, NoSuchFact, NotSettled, OutputShort}

-- the sentence that is printed, as bytes
abbrev pub sentence : Refusal → List ℕ
sentence BytesEnd = codes "the bytes end where a number must start, or inside one"
sentence Malformed = codes "a number is too long, not in its shortest form, or above 65,535"
sentence OutsideLimit = codes "a number lies outside the limit for its place"
sentence NotAscending = codes "the marks of a list do not ascend"
sentence FewRecords = codes "there are fewer records than the file counts"
sentence BytesRemain = codes "bytes remain behind the last number"
sentence Width = codes "a width is outside 1 to 512, or two widths differ"
sentence Record = codes "a line, bar or list breaks a limit or does not ascend"
sentence MarkTooHigh = codes "a mark is at or above the width"
sentence FactStands = codes "the fact to enter stands already"
sentence NoSuchFact = codes "the fact to strike does not stand"
sentence NotSettled = codes "the sheet is not settled"
sentence OutputShort = codes "the output is too short"
