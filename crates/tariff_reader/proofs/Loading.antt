-- What a walk over a file leaves in tables.
use Rattle.std.proofs.Common.{◌≡◌, ℕ, zero, suc, ◌≤◌, List, [], ◌∷◌, length, take, drop, Ok, Err, Result, sym, refl, ap, ◌∙◌, subst, inl, inr, arith}
use Rattle.std.proofs.lemmas.List.{take_at}
use Rattle.lines.specs.declared.fare.FareLine.{FareLine}
use Rattle.lines.specs.declared.term.TermLine.{TermLine}
use Rattle.tariff.specs.Numbers.{Bytes}
use Rattle.tariff_format.specs.Answers.{FileIs, FileHasFault, FileAnswer}
use Rattle.tariff_format.specs.Encoding.{Tariff}
use Rattle.tariff_format.specs.Files.{file_at}
use Rattle.tariff_format.specs.Tariffs.{counts_of}
use Rattle.tariff_format.specs.declared.counts.Counts.{Counts}
use Rattle.tariff_format.specs.declared.fault.FileFault.{FileFault}
use Rattle.tariff_format.proofs.Answering.{right_file}
use Rattle.tariff_reader.specs.Answers.{Accepted, answer, written, fare_records, term_records}
use Rattle.tariff_reader.specs.Tables.{HasNoLines, CanReadOver}

-- the tariff in the first records
abbrev pub tariff_in : Counts → List FareLine → List TermLine → Tariff
tariff_in h fares terms = record { width = h.width; fares = take h.fares fares; terms = take h.terms terms }

-- the first records are the lines written over them
first_written : {L : Type 0} (ls old new : List L) → new ≡ written ls old → take (length ls) new ≡ ls
first_written ls old new e = ap (take (length ls)) e ∙ take_at ls (drop (length ls) old) (length ls) refl

-- none in use of the old records, none of the new
none_used : {L : Type 0} (k : ℕ) (old new : List L) → k ≤ length old → length (take k old) ≡ 0 → take k new ≡ take k old
none_used zero old new room none = refl
none_used (suc k) [] new room none = absurd (omega arith)
none_used (suc k) (x ∷ old) new room none = absurd (omega arith)

-- the reading of a file is right, for a caller with 1,024 and 512 records
pub right_here : (m n : ℕ) (file : List ℕ) → m ≡ 1024 → n ≡ 512 → Bytes file → FileAnswer 1024 512 file (file_at m n file)
right_here m n file m_is n_is bytes =
    let x = file_at m n file in
    subst (λ k. FileAnswer 1024 k file x) n_is (subst (λ k. FileAnswer k n file x) m_is (right_file m n file bytes))

module _ (m n : ℕ) (file : List ℕ) where
  -- the walk of a file ended: its lines were written over the first records
  pub loaded : (h : Counts) (fares fares' : List FareLine) (terms terms' : List TermLine) (x : Result (Tariff × ℕ) FileFault)
      → FileAnswer m n file x → Ok h ≡ answer x → (Accepted x → fares' ≡ fare_records x fares) → (Accepted x → terms' ≡ term_records x terms)
      → FileIs m n file (tariff_in h fares' terms')
  loaded h fares fares' terms terms' (Ok x) right is f t =
      let t₀ : Tariff = x.0 in
      let counts : counts_of t₀ ≡ h = cc in
      let first : take h.fares fares' ≡ t₀.fares = ap (λ (c : Counts). take c.fares fares') (sym counts) ∙ first_written t₀.fares fares fares' (f tt) in
      let second : take h.terms terms' ≡ t₀.terms = ap (λ (c : Counts). take c.terms terms') (sym counts) ∙ first_written t₀.terms terms terms' (t tt) in
      let same : t₀ ≡ tariff_in h fares' terms' = (λ i. record { width = (counts i).width; fares = sym first i; terms = sym second i }) in
      subst (FileIs m n file) same right.0
  loaded h fares fares' terms terms' (Err e) right is f t = absurd (let z : ◌≡◌ {A = ℕ} 0 1 = cc in omega arith)

  -- and it counts no more lines than there are records
  pub counted : (h : Counts) (x : Result (Tariff × ℕ) FileFault) → FileAnswer m n file x → Ok h ≡ answer x → (h.fares ≤ m) × (h.terms ≤ n)
  counted h (Ok x) right is =
      let counts : counts_of x.0 ≡ h = cc in
      subst (λ (c : Counts). (c.fares ≤ m) × (c.terms ≤ n)) counts (right.0.taken.fares, right.0.taken.terms)
  counted h (Err e) right is = absurd (let z : ◌≡◌ {A = ℕ} 0 1 = cc in omega arith)

  -- it met a fault
  pub faulty : (f : FileFault) (x : Result (Tariff × ℕ) FileFault) → FileAnswer m n file x → Err f ≡ answer x → FileHasFault m n file f
  faulty f (Ok x) right is = absurd (let z : ◌≡◌ {A = ℕ} 0 1 = cc in omega arith)
  faulty f (Err e) right is = let same : e ≡ f = cc in subst (FileHasFault m n file) same right

-- an accepted file has no fault
not_accepted : (f : FileFault) (x : Result (Tariff × ℕ) FileFault) → Err f ≡ answer x → Accepted x → ⊥
not_accepted f (Ok x) is a = let z : ◌≡◌ {A = ℕ} 0 1 = cc in omega arith
not_accepted f (Err e) is a = a

-- tables that a file can be read over hold the same where it met a fault, whatever stands in their records then
module _ (m n : ℕ) (file : List ℕ) (m_is : m ≡ 1024) (n_is : n ≡ 512) (h : Counts) (fares fares' : List FareLine) (terms terms' : List TermLine) where
  accepted_here : Accepted (file_at 1024 512 file) → Accepted (file_at m n file)
  accepted_here a = subst (λ k. Accepted (file_at k n file)) (sym m_is) (subst (λ k. Accepted (file_at 1024 k file)) (sym n_is) a)

  pub kept : (held : Tariff) → m ≡ length fares → n ≡ length terms → tariff_in h fares terms ≡ held → (h.fares ≤ 1024) × (h.terms ≤ 512)
      → CanReadOver held file → (f : FileFault) → Err f ≡ answer (file_at m n file) → tariff_in h fares' terms' ≡ held
  kept held m_of n_of view room (inl none) f is =
      let none_here : HasNoLines (tariff_in h fares terms) = subst HasNoLines (sym view) none in
      let first = none_used h.fares fares fares' (let r = room.0 in omega arith) none_here.0 in
      let second = none_used h.terms terms terms' (let r = room.1 in omega arith) none_here.1 in
      (λ i. record { width = h.width; fares = first i; terms = second i }) ∙ view
  kept held m_of n_of view room (inr a) f is = absurd (not_accepted f (file_at m n file) is (accepted_here a))
