-- What follows for a caller from the clauses of `read`, `store` and `meet`.
use Rattle.std.proofs.Common.{◌≡◌, ◌≢◌, ℕ, List, [], sym, ap, ◌∙◌, subst}
use Rattle.std.proofs.lemmas.List.{get_or-set_other}
use Rattle.cells.specs.Versions.{tid, last_tid, Has}
use Rattle.cells.specs.Records.{PenView, ReaderView, at, StoresVersion, LoadsRecord, LearnsRecord}
use Rattle.cells.proofs.Rising.{last_tid-push, ends_has, has_more}

pub last_tid-writes : {old new : PenView} {n : ℕ} {version : List ℕ} → StoresVersion old new n version → last_tid (at new.all n) ≡ tid version
last_tid-writes {old} {new} {n} {version} w = ap last_tid w.last ∙ last_tid-push (at old.all n) version

-- another record's versions stay
pub other_stays : {old new : PenView} {n : ℕ} {version : List ℕ} → StoresVersion old new n version → (m : ℕ) → m ≢ n → at new.all m ≡ at old.all m
other_stays {old} {new} {n} s m other = ap (λ (all : List (List (List ℕ))). at all m) s.others ∙ get_or-set_other old.all n m (at new.all n) [] other

-- what was read has been seen
pub reads_has : {old new : ReaderView} {n : ℕ} {version : List ℕ} → LoadsRecord old new n version → Has (at new.seen n) version
reads_has {old} {new} {n} {version} r = ends_has (at new.seen n) version r.last

-- and stays seen
pub learns_has : {pen : PenView} {old new : ReaderView} {n : ℕ} → LearnsRecord pen old new n → (version : List ℕ) → Has (at old.seen n) version
    → Has (at new.seen n) version
learns_has {pen} {old} {new} {n} l version h = subst (λ (all : List (List ℕ)). Has all version) (sym l.learnt)
    (has_more (at pen.all n) (at old.seen n) version l.grows h)
