-- What a Payment puts at the left of C_DATA.
use Rattle.std.specs.Prelude.{ℕ, List, ◌++◌, codes}
use Rattle.std.specs.Fmt.{decimal}
use Rattle.money.specs.Money.{money_text}
use Rattle.customer_data.specs.declared.payments.PaymentText.{PaymentText}

-- C_ID, C_D_ID, C_W_ID, D_ID, W_ID and H_AMOUNT (TPC-C 2.5.2.2), parted by blanks, and a bar
abbrev pub payment_text : PaymentText → List ℕ
payment_text p = decimal p.customer ++ (codes " " ++ (decimal p.customer_district ++ (codes " " ++ (decimal p.customer_warehouse
    ++ (codes " " ++ (decimal p.district ++ (codes " " ++ (decimal p.warehouse ++ (codes " " ++ (money_text p.amount ++ codes "|"))))))))))
