-- What names the log files of a run, for those who begin one.
use Rattle.std.proofs.Common.{◌≡◌, ℕ, ◌+◌, ◌<◌, false, List, [], ◌∷◌, ◌++◌, length, sym, ap, ◌∙◌, append-nil}
use Rattle.std.proofs.lemmas.List.{get_or-map}
use Rattle.std.specs.Prelude.{slice_index_or}
use Rattle.log_disk.specs.Calls.{Call, Wrote, Synced}
use Rattle.log_header.specs.Header.{HeaderView, header_text}
use Rattle.log_text.specs.Bodies.{start}
use Rattle.board.specs.Seats.{BoardView}
use Rattle.logfile.specs.Standing.{LogFileView, Stands}
use Rattle.logger.specs.Logger.{LoggerView}
use Rattle.recover_crashes.specs.World.{DiskView}
use Rattle.recover_opening.specs.Opening.{file_on}
use Rattle.lane_logger.specs.Found.{IsFoundIn, as_they_are, new_file, no_file}
use Rattle.lane_logger.specs.declared.logged.LoggedRun as logged

-- files that are open already, in the order of their loggers
abbrev pub logs_named_by : {K D : Type 0} → (D → List ℕ) → (D → List Call) → List (LogFileView D) → logged.Ghosts K
logs_named_by seen_of story_of files = record { found = as_they_are seen_of story_of files }

-- each is found at its place
pub found_there : {D : Type 0} (seen_of : D → List ℕ) (story_of : D → List Call) (files : List (LogFileView D)) (l k : ℕ) (file : LogFileView D) → k ≡ l
    → l < length files → slice_index_or files l file ≡ file → as_they_are seen_of story_of files k ≡ file_on seen_of story_of file
found_there seen_of story_of files l k file same within is =
    ap (as_they_are seen_of story_of files) same ∙ get_or-map (file_on seen_of story_of) files l file no_file within
    ∙ ap (file_on seen_of story_of) is

-- a logger is found in a run as its board and its files are named there
pub found_as : {D : Type 0} {IsModelled : Type 0} {seen_of : D → List ℕ} {story_of : D → List Call} {here board : BoardView}
    {files found : ℕ → LogFileView DiskView} {logger : LoggerView D} → found ≡ files → here ≡ board
    → IsFoundIn here files IsModelled seen_of story_of logger → IsFoundIn board found IsModelled seen_of story_of logger
found_as {logger = logger} same own is = record {
  own = is.own ∙ own;
  named = λ modelled. ap (λ (f : ℕ → LogFileView DiskView). f logger.file.header.logger) same ∙ is.named modelled;
}

-- a file that was made on a disk on which nothing was called yet
pub made_new : {D : Type 0} (seen_of : D → List ℕ) (story_of : D → List Call) (file : LogFileView D) (header : HeaderView) (story : List Call)
    → file.header ≡ header → (file.last ≡ start) × (file.count ≡ 0) × (file.number ≡ 0) × (file.failed ≡ false)
    → Stands file.header [] file.end file.last (seen_of file.disk) (story_of file.disk)
    → seen_of file.disk ≡ header_text file.header ++ 0 ∷ []
    → story_of file.disk ≡ Synced (seen_of file.disk) ∷ Wrote 0 (file.end + 1) ∷ story → story ≡ []
    → new_file header ≡ file_on seen_of story_of file
made_new seen_of story_of file header story is as_new stands bytes calls none =
    let seen : header_text header ++ 0 ∷ [] ≡ seen_of file.disk = ap (λ h. header_text h ++ 0 ∷ []) (sym is) ∙ sym bytes in
    let end : length (header_text header) ≡ file.end
    = ap (λ h. length (header_text h)) (sym is) ∙ ap length (sym (append-nil (header_text file.header))) ∙ stands.place in
    let story_is : Synced (header_text header ++ 0 ∷ []) ∷ Wrote 0 (length (header_text header) + 1) ∷ [] ≡ story_of file.disk
    = (λ i. Synced (seen i) ∷ Wrote 0 (end i + 1) ∷ sym none i) ∙ sym calls in
    λ i. record {
      disk = record { seen = seen i; story = story_is i };
      header = sym is i;
      end = end i;
      last = sym as_new.0 i;
      count = sym as_new.1 i;
      number = sym as_new.2 i;
      failed = sym as_new.3 i;
    }
