-- How far a loop over the lines of an order has come.
use Rattle.std.proofs.Common.{◌≡◌, ℕ, ◌+◌, ◌<◌, ℤ, List, length, map, take, get_or, sym, ap, ◌∙◌, arith}
use Rattle.std.proofs.lemmas.List.{get_or-map, length-take-le}
use Rattle.tables.specs.Database.{Database}
use Rattle.tables.specs.NewOrder.{line_amount}
use Rattle.tables.specs.declared.new_order.RequestedLine.{RequestedLine}

-- a line's number is the number of lines before it, and 1
pub so_far : (ls : List RequestedLine) (number i : ℕ) → number ≡ i → i < length ls → number + 1 ≡ length (take i ls) + 1
so_far ls number i same more = ap (λ n. n + 1) (same ∙ sym (length-take-le i ls (omega (arith, more))))

-- its amount
pub priced_at : (t : Database) (ls : List RequestedLine) (amounts : List ℤ) (number i : ℕ) (z : ℤ) (d : RequestedLine) → amounts ≡ map (line_amount t) ls
    → number ≡ i → i < length ls
    → get_or amounts number z ≡ line_amount t (get_or ls i d)
priced_at t ls amounts number i z d priced same more = (λ j. get_or (priced j) (same j) z) ∙ get_or-map (line_amount t) ls i d z more
