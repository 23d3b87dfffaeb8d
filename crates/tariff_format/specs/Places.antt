-- The places of a tariff file where a number must stand: the bytes before each, the limits of its number, and its line. What
-- stands before a place is right number by number, as it is tested: a list's count may be greater than the width has marks for.
use Rattle.std.specs.Prelude.{◌≡◌, ℕ, ◌-◌, ◌<◌, ◌≤◌, List, [], ◌++◌, length, IfSome, Some, None, Option}
use Rattle.std.specs.List.{flat_map, AllByRecursion}
use Rattle.lines.specs.declared.fare.FareLine.{FareLine}
use Rattle.lines.specs.declared.list.MarkList.{MarkList}
use Rattle.lines.specs.declared.term.Kind.{Kind}
use Rattle.lines.specs.declared.term.TermLine.{TermLine}
use Rattle.lines.specs.Records.{the_kind}
use Rattle.tariff.specs.Faults.{Within}
use Rattle.tariff.specs.Lists.{Ascending, least_behind}
use Rattle.tariff.specs.Numbers.{encode}
use Rattle.tariff_format.specs.declared.counts.Counts.{Counts}
use Rattle.tariff_format.specs.declared.fault.LineAt.{LineAt}
use Rattle.tariff_format.specs.declared.fault.Section.TheVariants.{Fare, Term}
use Rattle.tariff_format.specs.Encoding.{list_bytes, fare_bytes, head_bytes, term_bytes}
use Rattle.tariff_format.specs.Tidy.{TidyList, TidyFare, TidyTerm}

-- what a number must lie between, and what it must not lie below to ascend
pub record Limits : Type 0 where
  pub low : ℕ
  pub high : ℕ
  pub least : ℕ

abbrev pub from_to : ℕ → ℕ → Limits
from_to low high = record { low = low; high = high; least = 0 }

-- a mark below the width w
abbrev pub a_mark : ℕ → Limits
a_mark w = from_to 0 (w - 1)

-- In a list: its count, or the mark behind some marks of so many.
pub data ListPlace : Type 0 where
  the_count : ListPlace
  mark_of : (count : ℕ) (before : List ℕ) → ListPlace

abbrev pub list_before : ListPlace → List ℕ
list_before the_count = []
list_before (mark_of k ms) = encode k ++ flat_map encode ms

abbrev pub list_limits : ℕ → ListPlace → Limits
list_limits w the_count = from_to 0 8
list_limits w (mark_of k ms) = record { low = 0; high = w - 1; least = least_behind 0 ms }

-- what stands before the place is right, and the place comes next
abbrev pub ListReached : ℕ → ListPlace → Type 0
ListReached w the_count = Unit {0}
ListReached w (mark_of k ms) = (k ≤ 8) × (length ms < k) × Ascending w 0 ms

-- In a fare line: its head, or a place in one of its lists.
pub data FarePlace : Type 0 where
  the_head : FarePlace
  in_conditions : (head : ℕ) → ListPlace → FarePlace
  in_unless : (head : ℕ) (conditions : MarkList) → ListPlace → FarePlace

abbrev pub fare_before : FarePlace → List ℕ
fare_before the_head = []
fare_before (in_conditions m at) = encode m ++ list_before at
fare_before (in_unless m cs at) = encode m ++ (list_bytes cs ++ list_before at)

abbrev pub fare_limits : ℕ → FarePlace → Limits
fare_limits w the_head = a_mark w
fare_limits w (in_conditions m at) = list_limits w at
fare_limits w (in_unless m cs at) = list_limits w at

abbrev pub FareReached : ℕ → FarePlace → Type 0
FareReached w the_head = Unit {0}
FareReached w (in_conditions m at) = (m < w) × ListReached w at
FareReached w (in_unless m cs at) = (m < w) × TidyList w cs × ListReached w at

-- In a term line: its kind, the head of a line that gives one, or a place in its conditions.
pub data TermPlace : Type 0 where
  its_kind : TermPlace
  its_head : TermPlace
  conditions_of : (kind : Kind) (head : ℕ) → ListPlace → TermPlace

abbrev pub term_before : TermPlace → List ℕ
term_before its_kind = []
term_before its_head = encode 1
term_before (conditions_of k m at) = encode (the_kind k).number ++ (head_bytes k m ++ list_before at)

abbrev pub term_limits : ℕ → TermPlace → Limits
term_limits w its_kind = from_to 1 2
term_limits w its_head = a_mark w
term_limits w (conditions_of k m at) = list_limits w at

abbrev pub TermReached : ℕ → TermPlace → Type 0
TermReached w its_kind = Unit {0}
TermReached w its_head = Unit {0}
TermReached w (conditions_of k m at) = IfSome ((the_kind k).head m) (λ n. n < w) × ListReached w at

-- what a file opens with
abbrev pub opening_bytes : Counts → List ℕ
opening_bytes h = encode h.width ++ (encode h.fares ++ encode h.terms)

-- the three numbers keep their limits
pub record RightCounts (h : Counts) : Type 0 where
  pub width : Within 1 512 h.width
  pub fares : Within 0 1024 h.fares
  pub terms : Within 0 512 h.terms

-- and a caller with m fare and n term records has one for each line
pub record HasRoom (m n : ℕ) (h : Counts) : Type 0 where
  pub right : RightCounts h
  pub fares : h.fares ≤ m
  pub terms : h.terms ≤ n

-- In a file: its width, a count, or a place in the line behind some fare lines, or behind all of them and some term lines.
pub data FilePlace : Type 0 where
  the_width : FilePlace
  the_fares : (width : ℕ) → FilePlace
  the_terms : (width fares : ℕ) → FilePlace
  fare_line : (opening : Counts) (before : List FareLine) → FarePlace → FilePlace
  term_line : (opening : Counts) (fares : List FareLine) (before : List TermLine) → TermPlace → FilePlace

abbrev pub file_before : FilePlace → List ℕ
file_before the_width = []
file_before (the_fares w) = encode w
file_before (the_terms w f) = encode w ++ encode f
file_before (fare_line h fs at) = opening_bytes h ++ (flat_map fare_bytes fs ++ fare_before at)
file_before (term_line h fs ts at) = opening_bytes h ++ (flat_map fare_bytes fs ++ (flat_map term_bytes ts ++ term_before at))

abbrev pub file_limits : FilePlace → Limits
file_limits the_width = from_to 1 512
file_limits (the_fares w) = from_to 0 1024
file_limits (the_terms w f) = from_to 0 512
file_limits (fare_line h fs at) = fare_limits h.width at
file_limits (term_line h fs ts at) = term_limits h.width at

-- the line that a place is in, where it is in one
abbrev pub place_line : FilePlace → Option LineAt
place_line the_width = None
place_line (the_fares w) = None
place_line (the_terms w f) = None
place_line (fare_line h fs at) = Some (record { section = Fare; index = length fs })
place_line (term_line h fs ts at) = Some (record { section = Term; index = length ts })

-- all numbers before the place are right, for a caller with m fare and n term records, and the place comes next
abbrev pub FileReached : ℕ → ℕ → FilePlace → Type 0
FileReached m n the_width = Unit {0}
FileReached m n (the_fares w) = Within 1 512 w
FileReached m n (the_terms w f) = Within 1 512 w × Within 0 1024 f
FileReached m n (fare_line h fs at) = HasRoom m n h × AllByRecursion (TidyFare h.width) fs × (length fs < h.fares) × FareReached h.width at
FileReached m n (term_line h fs ts at) =
    HasRoom m n h × (AllByRecursion (TidyFare h.width) fs × (length fs ≡ h.fares)) × AllByRecursion (TidyTerm h.width) ts × (length ts < h.terms) × TermReached h.width at
