-- How long lines and files are by their parts.
use Rattle.std.proofs.Common.{◌≡◌, ℕ, ◌+◌, List, ◌++◌, length, length-append}
use Rattle.std.specs.List.{flat_map}
use Rattle.lines.specs.declared.fare.FareLine.{FareLine}
use Rattle.lines.specs.declared.term.TermLine.{TermLine}
use Rattle.lines.specs.Records.{the_kind}
use Rattle.tariff.specs.Numbers.{encode}
use Rattle.tariff_format.specs.Encoding.{list_bytes, fare_bytes, head_bytes, term_bytes, file_bytes}
use Rattle.tariff_format.specs.Tariffs.{tariff_of}

length_three : (xs ys zs : List ℕ) → length (xs ++ (ys ++ zs)) ≡ length xs + (length ys + length zs)
length_three xs ys zs = simp length-append

-- how long a line is
pub length_fare : (l : FareLine) → length (fare_bytes l) ≡ length (encode l.head) + (length (list_bytes l.conditions) + length (list_bytes l.unless))
length_fare l = length_three (encode l.head) (list_bytes l.conditions) (list_bytes l.unless)

pub length_term : (l : TermLine) → length (term_bytes l) ≡ length (encode (the_kind l.kind).number) + (length (head_bytes l.kind l.head) + length (list_bytes l.conditions))
length_term l = length_three (encode (the_kind l.kind).number) (head_bytes l.kind l.head) (list_bytes l.conditions)

-- how long a file is
pub length_file : (w : ℕ) (fares : List FareLine) (terms : List TermLine) → length (file_bytes (tariff_of w fares terms)) ≡ length (encode w) + (length (encode (length fares)) + (length (encode (length terms)) + (length (flat_map fare_bytes fares) + length (flat_map term_bytes terms))))
length_file w fares terms = simp length-append
