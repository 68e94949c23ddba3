-- The text of the report at the end of a script.
use Rattle.std.specs.Prelude.{ℕ, Option, Some, None, List, ◌++◌, codes}
use Rattle.std.specs.Fmt.{decimal}
use Rattle.tables.specs.KeyTexts.{district_text, customer_text, order_text, line_text}
use Rattle.conditions.specs.declared.report.Report.{Report}

-- the line of one condition, as "C9 ok" or "C9 broken 1 1", with its line feed
abbrev pub verdict_text : {K : Type 0} → (K → List ℕ) → ℕ → Option K → List ℕ
verdict_text key_text condition None = codes "C" ++ (decimal condition ++ codes " ok\n")
verdict_text key_text condition (Some key) = codes "C"
    ++ (decimal condition ++ (codes " broken " ++ (key_text key ++ codes "\n")))

-- the lines of conditions 1 to 6, and of 7 to 12
abbrev pub first_verdicts : Report → List ℕ
first_verdicts report =
    verdict_text decimal 1 report.condition_1
    ++ (verdict_text district_text 2 report.condition_2
    ++ (verdict_text district_text 3 report.condition_3
    ++ (verdict_text district_text 4 report.condition_4
    ++ (verdict_text order_text 5 report.condition_5
    ++ verdict_text order_text 6 report.condition_6))))

abbrev pub last_verdicts : Report → List ℕ
last_verdicts report =
    verdict_text line_text 7 report.condition_7
    ++ (verdict_text decimal 8 report.condition_8
    ++ (verdict_text district_text 9 report.condition_9
    ++ (verdict_text customer_text 10 report.condition_10
    ++ verdict_text customer_text 12 report.condition_12)))

-- the lines of all conditions
abbrev pub verdicts : Report → List ℕ
verdicts report = first_verdicts report ++ last_verdicts report

-- the text of a report
abbrev pub report_text : ℕ → Report → List ℕ
report_text commits report = codes "commits "
    ++ (decimal commits ++ (codes "\n" ++ verdicts report))
