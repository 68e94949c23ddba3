-- What a Payment makes of C_DATA of its customer (TPC-C 2.5.2.2).
use Rattle.std.specs.Prelude.{◌≡◌, ℕ, false, Option, Some, None, List, [], ◌∷◌}
use Rattle.tables.specs.Database.{Database}
use Rattle.tables.specs.Payment.{payer, changes_text, after_payment_of}
use Rattle.tables.specs.Rows.{row_at}
use Rattle.tables.specs.declared.keys.CustomerKey.{CustomerKey}
use Rattle.tables.specs.declared.records.RecordKey.TheVariants as key
use Rattle.tables.specs.declared.payment.PaymentInput.{PaymentInput}
use Rattle.readset.specs.Changes.{Changes, puts_all}
use Rattle.readset.specs.Transaction.{TransactionView, AtAll}

-- what changes of C_DATA, where these are its words after the payment, and nothing where it doesn't change
abbrev pub text_change : PaymentInput → ℕ → Option (List ℕ) → Changes
text_change x c None = []
text_change x c (Some words) = (key.CustomerData (payer x c), Some words) ∷ []

-- at these tables it comes to that
abbrev pub IsTextAfter : PaymentInput → ℕ → Option (List ℕ) → Database → Type 0
IsTextAfter x c None t = (k : CustomerKey) → changes_text t x c k ≡ false
IsTextAfter x c (Some words) t = row_at (after_payment_of t x c) (key.CustomerData (payer x c)) ≡ Some words

-- a step that writes no more than this change, which is right at all tables at which the transaction may have read
pub record TellsText (t0 : Database) (x : PaymentInput) (c : ℕ) (old new : TransactionView) : Type 0 where
  pub text : Option (List ℕ)
  pub writes : new.writes ≡ puts_all t0.scale old.writes (text_change x c text)
  pub right : AtAll t0 new (IsTextAfter x c text)
