-- What is so of each record written, after one write more.
use Rattle.std.proofs.Common.{◌≡◌, ℕ, ◌+◌, ◌<◌, ◌≤◌, true, false, cond, List, [], ◌∷◌, Option, Some, None, IsSome, true≢false, length, refl, sym, ◌∙◌, subst}
use Rattle.std.proofs.Common.{arith}
use Rattle.std.proofs.lemmas.Option.{same_Some}
use Rattle.std.specs.Ordering.{nat_cmp, is_eq, match_ordering}
use Rattle.std.specs.BTreeMap.{insert_entry}
use Rattle.std.specs.declared.cmp.Ordering.TheVariants.{Less, Equal, Greater}
use Rattle.cells.specs.declared.cells.Version.{Version}
use Rattle.readset.specs.Reads.{ReadSetView, held, Keeps, AreWithin}
use Rattle.readset.specs.Writes.{WriteSetView, value_for, puts}
use Rattle.readset.specs.Explains.{WritesAreRead}
use Rattle.readset.proofs.Numbers.{same_number}
use Rattle.readset.proofs.Lookups.{lookup-insert_entry}
use Rattle.readset.proofs.MoreReads.{still_read}

pub each_put_value : (P : ℕ → Option (List ℕ) → Type 0) (writes : WriteSetView) (n : ℕ) (value : Option (List ℕ))
    → ((m : ℕ) (v : Option (List ℕ)) → value_for writes m ≡ Some v → P m v) → P n value
    → (m : ℕ) (v : Option (List ℕ)) → value_for (puts writes n value) m ≡ Some v → P m v
each_put_value P writes n value each here m v found =
    elim (is_eq (nat_cmp m n)) as (λ b. is_eq (nat_cmp m n) ≡ b → cond b (Some value) (value_for writes m) ≡ Some v → P m v) [
      | true ↦ λ q same. subst (λ k. P k v) (sym (same_number m n q)) (subst (P n) (same_Some value v same) here)
      | false ↦ λ _ f. each m v f
    ] refl (sym (lookup-insert_entry m n value writes.values) ∙ found)

pub length-insert_entry : {X : Type 0} (n : ℕ) (v : X) (es : List (ℕ × X)) → length (insert_entry nat_cmp es n v) ≤ length es + 1
length-insert_entry n v [] = omega arith
length-insert_entry {X} n v (e ∷ es) =
    let rest = length-insert_entry n v es in
    elim (nat_cmp n e.0) as (λ o. length (match_ordering o ((n, v) ∷ e ∷ es) ((e.0, v) ∷ es) (e ∷ insert_entry nat_cmp es n v)) ≤ length (e ∷ es) + 1) [
      | Less ↦ omega arith
      | Equal ↦ omega arith
      | Greater ↦ omega (arith, rest)
    ]

-- no write of a record that wasn't read: after one write more, and after reads more
pub puts_read : (writes : WriteSetView) (reads : ReadSetView) (n : ℕ) (value : Option (List ℕ)) → WritesAreRead writes reads → IsSome (held reads n)
    → WritesAreRead (puts writes n value) reads
puts_read writes reads n value = each_put_value (λ m _. IsSome (held reads m)) writes n value

pub keeps_read : (writes : WriteSetView) (reads more : ReadSetView) → Keeps reads more → WritesAreRead writes reads → WritesAreRead writes more
keeps_read writes reads more keeps each n value found = still_read reads more n keeps (each n value found)

-- what is written was read, and what was read has a cell
within : (reads : ReadSetView) (cells n : ℕ) (o : Option Version) → held reads n ≡ o → IsSome o → AreWithin cells reads → n < cells
within reads cells n None e h all = absurd (true≢false (sym h))
within reads cells n (Some v) e h all = all n v e

pub written_within : (writes : WriteSetView) (reads : ReadSetView) (cells : ℕ) → WritesAreRead writes reads → AreWithin cells reads
    → (n : ℕ) (value : Option (List ℕ)) → value_for writes n ≡ Some value → n < cells
written_within writes reads cells each all n value found = within reads cells n (held reads n) refl (each n value found) all
