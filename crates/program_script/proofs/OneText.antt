-- Bytes have one text.
use Rattle.std.proofs.Common.{◌≡◌, ℕ, Option, None, Some, List, ◌++◌, length, refl, sym, ap, ◌∙◌, subst}
use Rattle.std.proofs.lemmas.List.{length-map}
use Rattle.std.specs.Ordering.{ordering_reverse}
use Rattle.std.specs.declared.cmp.Ordering.{Ordering}
use Rattle.std.specs.declared.cmp.Ordering.TheVariants.{Less, Equal, Greater}
use Rattle.tables.specs.Database.{Database}
use Rattle.tables.proofs.Orders.{IsExact, exact_number, exact_district, exact_customer, exact_order, exact_line}
use Rattle.program_script_text.specs.Lines.{text_lines}
use Rattle.program_script_text.specs.Report.{report_text}
use Rattle.conditions.specs.Finds.{FindsLeast}
use Rattle.conditions.specs.Report.{IsReportOf}
use Rattle.conditions.specs.declared.report.Report.{Report}
use Rattle.book.specs.Done.{Done}
use Rattle.program_script.specs.Turns.{commits_of}
use Rattle.program_script.specs.Written.{first_state, answers_text, IsWhole}
use Rattle.program_script.proofs.OneRun.{one_run}

-- there is one least key
one_finding : {K : Type 0} {R : K → K → Ordering} → IsExact R → (IsKey HoldsAt : K → Type 0) (a b : Option K) → FindsLeast R IsKey HoldsAt a
    → FindsLeast R IsKey HoldsAt b → a ≡ b
one_finding o IsKey HoldsAt None None p q = refl
one_finding o IsKey HoldsAt None (Some k) p q = absurd (q.1 (p k q.0))
one_finding o IsKey HoldsAt (Some k) None p q = absurd (p.1 (q k p.0))
one_finding {K} {R} o IsKey HoldsAt (Some k) (Some j) p q = go (R k j) refl
  where
    go : (c : Ordering) → R k j ≡ c → Some k ≡ Some j
    go Less e = absurd (p.1 (q.2 k p.0 e))
    go Equal e = ap (λ x. Some x) (o.same k j e)
    go Greater e = absurd (q.1 (p.2 j q.0 (o.total.antisymm j k ∙ ap ordering_reverse e)))

one_report : (t : Database) (a b : Report) → IsReportOf t a → IsReportOf t b → a ≡ b
one_report t a b p q =
    let first = one_finding exact_number _ _ a.condition_1 b.condition_1 p.condition_1 q.condition_1 in
    let second = one_finding exact_district _ _ a.condition_2 b.condition_2 p.condition_2 q.condition_2 in
    let third = one_finding exact_district _ _ a.condition_3 b.condition_3 p.condition_3 q.condition_3 in
    let fourth = one_finding exact_district _ _ a.condition_4 b.condition_4 p.condition_4 q.condition_4 in
    let fifth = one_finding exact_order _ _ a.condition_5 b.condition_5 p.condition_5 q.condition_5 in
    let sixth = one_finding exact_order _ _ a.condition_6 b.condition_6 p.condition_6 q.condition_6 in
    let seventh = one_finding exact_line _ _ a.condition_7 b.condition_7 p.condition_7 q.condition_7 in
    let eighth = one_finding exact_number _ _ a.condition_8 b.condition_8 p.condition_8 q.condition_8 in
    let ninth = one_finding exact_district _ _ a.condition_9 b.condition_9 p.condition_9 q.condition_9 in
    let tenth = one_finding exact_customer _ _ a.condition_10 b.condition_10 p.condition_10 q.condition_10 in
    let twelfth = one_finding exact_customer _ _ a.condition_12 b.condition_12 p.condition_12 q.condition_12 in
    λ i. record {
      condition_1 = first i;
      condition_2 = second i;
      condition_3 = third i;
      condition_4 = fourth i;
      condition_5 = fifth i;
      condition_6 = sixth i;
      condition_7 = seventh i;
      condition_8 = eighth i;
      condition_9 = ninth i;
      condition_10 = tenth i;
      condition_12 = twelfth i;
    }

-- two whole scripts of the same bytes
pub one_text : (tables : Database) (bytes text other : List ℕ) (report found : Report) (dones told : List Done) → IsWhole tables bytes text report dones
    → IsWhole tables bytes other found told → (text ≡ other) × (report ≡ found) × (commits_of dones ≡ commits_of told)
one_text tables bytes text other report found dones told w v =
    let run = one_run (first_state tables) 1 (text_lines bytes) w.answers v.answers w.last v.last w.turns v.turns in
    let commits : commits_of dones ≡ commits_of told = w.commits_are ∙ ap (λ s. s.commits) run.1 ∙ sym v.commits_are in
    let count : length dones ≡ length told = sym (length-map dones _) ∙ ap length commits ∙ length-map told _ in
    let reports : report ≡ found = one_report v.last.tables report found (subst (λ s. IsReportOf s.tables report) run.1 w.report_is) v.report_is in
    let texts : answers_text w.answers ++ report_text (length dones) report ≡ answers_text v.answers ++ report_text (length told) found =
    λ i. answers_text (run.0 i) ++ report_text (count i) (reports i) in
    (w.text_is ∙ texts ∙ sym v.text_is, reports, commits)
