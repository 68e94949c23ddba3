use Rattle.std.specs.Prelude.{ℕ, ◌+◌, ◌*◌, ◌-◌, ℤ, pos, ◌*ℤ◌, int_div}

-- total-amount in cents, rounded down, for rates in ten-thousandths (TPC-C, clause 2.4.2.2)
abbrev pub total_amount : ℤ → ℕ → ℕ → ℕ → ℤ
total_amount lines discount warehouse_tax district_tax =
    int_div (lines *ℤ pos ((10000 - discount) * (10000 + warehouse_tax + district_tax))) (pos 100000000)
