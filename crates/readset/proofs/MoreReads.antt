-- More reads: what is so at all tables that agree with some reads is so at all that agree with more. A record is read
-- once.
use Rattle.std.proofs.Common.{◌≡◌, ⊎_elim, inl, inr, ℕ, Some, None, Option, IsSome, is_some, true≢false, List, [], refl, sym, ap, ◌∙◌}
use Rattle.std.proofs.lemmas.Option.{same_Some}
use Rattle.tables.specs.Database.{Database}
use Rattle.tables.specs.Records.{number_of_key, IsRecordKey}
use Rattle.tables.specs.Rows.{rows, row_at}
use Rattle.tables.proofs.Numbers.{named}
use Rattle.tables.specs.declared.records.RecordKey.{RecordKey}
use Rattle.cells.specs.Records.{ReaderView}
use Rattle.cells.specs.declared.cells.Version.{Version}
use Rattle.readset.specs.Reads.{ReadSetView, AreRead, Keeps, held, IsReadAs, value_of}
use Rattle.readset.specs.Explains.{Agrees, IsCandidate}

none_some : (v : Version) → None ≡ Some v → ⊥
none_some v e = cc

-- nothing is read at first
pub nothing_read : (reader : ReaderView) → AreRead reader reader []
nothing_read reader = record {
  cells = refl;
  records = λ n v e. absurd (none_some v e);
  loads = λ n v e. absurd (none_some v e);
  grows = λ n v e. absurd (none_some v e);
  last = λ n v e. absurd (none_some v e);
  other_loads = λ n e. refl;
  other_seen = λ n e. refl;
}

pub keeps_twice : (a b c : ReadSetView) → Keeps a b → Keeps b c → Keeps a c
keeps_twice a b c first then n v found = then n v (first n v found)

-- a record that was read still is, after reads more
still : (reads more : ReadSetView) (n : ℕ) (o : Option Version) → held reads n ≡ o → IsSome o → Keeps reads more → IsSome (held more n)
still reads more n None e h keeps = absurd (true≢false (sym h))
still reads more n (Some v) e h keeps = ap is_some (keeps n v e)

pub still_read : (reads more : ReadSetView) (n : ℕ) → Keeps reads more → IsSome (held reads n) → IsSome (held more n)
still_read reads more n keeps h = still reads more n (held reads n) refl h keeps

pub candidate_before : (t0 : Database) (reads more : ReadSetView) (t : Database) → Keeps reads more → IsCandidate t0 more t → IsCandidate t0 reads t
candidate_before t0 reads more t keeps h = record {
  of_population = h.of_population;
  well_formed = h.well_formed;
  numbered = λ k here read. h.numbered k here
      (⊎_elim (λ own. inl (still_read reads more _ keeps own)) (λ oldest. inr (still_read reads more _ keeps oldest)) read);
  agrees = λ n v found. h.agrees n v (keeps n v found);
}

-- the version read of a key's record has the key's row
pub row_read : (t : Database) (reads : ReadSetView) (k : RecordKey) (n : ℕ) (v : Version) → Agrees t reads → held reads n ≡ Some v → n ≡ number_of_key t.scale k
    → IsRecordKey t.scale k → value_of v ≡ row_at t k
row_read t reads k n v agrees found at is_key = agrees n v found ∙ ap (rows t) at ∙ ap (row_at t) (named t.scale k is_key).1

-- the version read of a record has one value
pub read_once : (reads : ReadSetView) (n : ℕ) (a b : Option (List ℕ)) → IsReadAs reads n a → IsReadAs reads n b → a ≡ b
read_once reads n a b first second =
    let same : first.0 ≡ second.0 = same_Some _ _ (sym first.1 ∙ second.1) in
    first.2 ∙ ap value_of same ∙ sym second.2
