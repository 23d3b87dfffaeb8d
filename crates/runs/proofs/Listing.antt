-- The list call is a chain: each turn of its loop is one step more.
use Rattle.std.proofs.Common.{◌≡◌, ℕ, zero, suc, ◌+◌, ◌<◌, ◌≤◌, ◌≢◌, List, ◌∷◌, length, get_or, drop, set, Ok, Result, sym, refl, ap, ◌∙◌, subst, ap₂, add-one, arith, get_or-set_other, get_or-set_same, drop-drop, drop-set-lt}
use Rattle.marks.specs.declared.refusal.Refusal.{Refusal}
use Rattle.readings.specs.Books.{Book, Lawful}
use Rattle.lines.specs.declared.fare.FareLine.{FareLine}
use Rattle.sheet.specs.Steps.{NewSheet, Step}
use Rattle.sheet.specs.declared.call.Call.{Call}
use Rattle.sheet.specs.declared.call.Call.TheVariants.{Ask}
use Rattle.sheet.specs.declared.reply.Reply.{Reply}
use Rattle.sheet.specs.declared.reply.Reply.TheVariants.{Done}
use Rattle.sheet.specs.declared.sheet.Sheet.{Sheet}
use Rattle.runs.specs.Histories.{History}
use Rattle.runs.specs.Lists.{history, RunIn}
use Rattle.runs.specs.Runs.{RightRun}
use Rattle.runs.specs.Theorems.{Chain, new, call}
use Rattle.runs.proofs.Stepping.{chains_are_right}
use Rattle.runs.proofs.Turning.{event}

-- a reply written behind a history is none of its own
history_set : (calls : List Call) (replies : List (Result Reply Refusal)) (i : ℕ) (r : Result Reply Refusal) (n : ℕ) → n ≤ i
    → history calls (set replies i r) n ≡ history calls replies n
history_set calls replies i r zero h = refl
history_set calls replies i r (suc n) h =
    let ne : n ≢ i = omega arith in
    ap₂ (λ (x : Result Reply Refusal) (p : History). event (get_or calls n (Ask 0)) x ∷ p)
    (get_or-set_other replies i n r (Ok Done) ne) (history_set calls replies i r n (omega arith))

-- i calls are done; no record behind them was written
pub record SoFar (B : Book) (lines : List FareLine) (w : ℕ) (calls : List Call) (before replies : List (Result Reply Refusal)) (i : ℕ) (s : Sheet) : Type 0 where
  pub chain : Chain B lines w (history calls replies i) s
  pub others : drop i replies ≡ drop i before

module _ {B : Book} {lines : List FareLine} {w : ℕ} {calls : List Call} {before : List (Result Reply Refusal)} where
  pub so_far_new : (s : Sheet) → NewSheet w s → SoFar B lines w calls before before 0 s
  so_far_new s n = record { chain = new n; others = refl }

  pub so_far_more : {replies : List (Result Reply Refusal)} {i : ℕ} {s s' : Sheet} {c : Call} (r : Result Reply Refusal)
      → SoFar B lines w calls before replies i s → i < length replies → c ≡ get_or calls i (Ask 0) → Step B lines s c r s'
      → SoFar B lines w calls before (set replies i r) (i + 1) s'
  so_far_more {replies} {i} {s} {s'} {c} r so within is step =
      let here : get_or (set replies i r) i (Ok Done) ≡ r = get_or-set_same replies i r (Ok Done) within in
      let longer : history calls (set replies i r) (i + 1) ≡ event c r ∷ history calls replies i =
      ap (history calls (set replies i r)) (add-one i)
      ∙ ap₂ (λ (x : Result Reply Refusal) (p : History). event (get_or calls i (Ask 0)) x ∷ p) here (history_set calls replies i r i (omega arith))
      ∙ ap (λ (d : Call). event d r ∷ history calls replies i) (sym is) in
      record {
        chain = subst (λ (h : History). Chain B lines w h s') (sym longer) (call so.chain step);
        others = drop-set-lt (i + 1) replies i r (omega arith) ∙ drop_more i replies before so.others;
      }
    where
      drop_more : (n : ℕ) (xs ys : List (Result Reply Refusal)) → drop n xs ≡ drop n ys → drop (n + 1) xs ≡ drop (n + 1) ys
      drop_more n xs ys e = sym (drop-drop 1 n xs) ∙ ap (drop 1) e ∙ drop-drop 1 n ys

  pub so_far_all : {replies : List (Result Reply Refusal)} {i : ℕ} {s : Sheet} → Lawful B → SoFar B lines w calls before replies i s → i ≡ length calls
      → RunIn B lines w calls before replies
  so_far_all {replies} {i} {s} law so all =
      record {
        run = subst (λ (n : ℕ). RightRun B lines w (history calls replies n)) all (chains_are_right B lines law w _ s so.chain);
        others = subst (λ (n : ℕ). drop n replies ≡ drop n before) all so.others;
      }
