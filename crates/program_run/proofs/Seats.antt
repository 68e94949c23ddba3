-- The seats of loggers and their log files, taken from the last to the first.
use Rattle.std.proofs.Common.{◌≡◌, ◌≤◌, ⊎_elim, ◌∙◌, ◌+◌, ◌++◌, ◌∷◌, ◌<◌, ℕ, List, [], ap, ap₂, arith, get_or, length, refl, subst, suc, sym, zero}
use Rattle.std.proofs.lemmas.Bool.{cases_lt}
use Rattle.std.proofs.lemmas.List.{append_assoc, get_or-append-add, get_or_append_left, get_or_push, length-append, same_from_push}
use Rattle.log_disk.specs.Calls.{Call}
use Rattle.logfile.specs.Standing.{LogFileView}
use Rattle.recover_opening.specs.Opening.{file_on}
use Rattle.lane_logger.specs.Found.{as_they_are}
use Rattle.lane_logger.proofs.Found.{found_there}
use Rattle.program_run.specs.Outfit.{IsLogOf, AreLogsOf}
use Rattle.board.specs.declared.rule.Role.TheVariants.{Logger}
use Rattle.board.specs.Opening.{logger_seats}
use Rattle.board.specs.Seats.{BoardView, SeatView, new_seat}

-- there are so many
pub seats_count : (board : BoardView) (n : ℕ) → length (logger_seats board n) ≡ n
seats_count board zero = refl
seats_count board (suc n) =
    let next : n + 1 ≡ suc n = omega arith in
    length-append (logger_seats board n) (new_seat board (Logger n) ∷ []) ∙ (ap (λ (k : ℕ). k + 1) (seats_count board n) ∙ next)

-- the last one is that of the logger whose number is how many are left
pub last_seat : (board : BoardView) (seats left : List SeatView) (last : SeatView) → seats ≡ logger_seats board (length seats)
    → seats ≡ left ++ last ∷ [] → (left ≡ logger_seats board (length left)) × (last ≡ new_seat board (Logger (length left)))
last_seat board seats left last are is =
    let next : length left + 1 ≡ suc (length left) = omega arith in
    let count : length seats ≡ suc (length left) = ap length is ∙ (length-append left (last ∷ []) ∙ next) in
    let whole : logger_seats board (length left) ++ new_seat board (Logger (length left)) ∷ [] ≡ left ++ last ∷ [] =
    sym (ap (logger_seats board) count) ∙ (sym are ∙ is) in
    let parts = same_from_push (logger_seats board (length left)) left (new_seat board (Logger (length left))) last whole in
    (sym parts.0, sym parts.1)

-- so many first log files are those of the first loggers, of so many
pub record AreFirstLogs {D : Type 0} (n loggers mark : ℕ) (files : List (LogFileView D)) : Type 0 where
  pub count : length files ≡ n
  pub each : (l : ℕ) → l < n → (file : LogFileView D) → IsLogOf l loggers mark (get_or files l file)

module _ {D : Type 0} {loggers mark : ℕ} where
  pub no_logs : (files : List (LogFileView D)) → files ≡ [] → AreFirstLogs 0 loggers mark files
  no_logs files none = record { count = ap length none; each = λ l less. absurd (omega (arith, less)) }

  -- one more
  pub log_more : (n : ℕ) (files longer : List (LogFileView D)) (file : LogFileView D) → longer ≡ files ++ file ∷ []
      → IsLogOf n loggers mark file → AreFirstLogs n loggers mark files → AreFirstLogs (n + 1) loggers mark longer
  log_more n files longer file pushed is so_far =
      subst (AreFirstLogs (n + 1) loggers mark) (sym pushed) (record {
        count = length-append files (file ∷ []) ∙ ap (λ (k : ℕ). k + 1) so_far.count;
        each = λ l less d. ⊎_elim
            (λ (before : l < n).
            subst (IsLogOf l loggers mark) (sym (get_or_append_left files (file ∷ []) d l (omega (arith, before, so_far.count))))
            (so_far.each l before d))
            (λ (after : n ≤ l).
            let last : length files ≡ l = omega (arith, so_far.count, less, after) in
            let number : n ≡ l = omega (arith, less, after) in
            subst (IsLogOf l loggers mark) (sym (get_or_push files file d l last))
            (subst (λ (k : ℕ). IsLogOf k loggers mark file) number is))
            (cases_lt l n);
      })

  -- the last one is that of the last logger, and those that are left are the first ones
  pub last_log : (n : ℕ) (files left : List (LogFileView D)) (file : LogFileView D) → files ≡ left ++ file ∷ []
      → AreFirstLogs n loggers mark files
      → AreFirstLogs (length left) loggers mark left × IsLogOf (length left) loggers mark file × (n ≡ length left + 1)
  last_log n files left file are first =
      let count : n ≡ length left + 1 = sym first.count ∙ (ap length are ∙ length-append left (file ∷ [])) in (
        record {
          count = refl;
          each = λ l less d.
              subst (IsLogOf l loggers mark) (ap (λ fs. get_or fs l d) are ∙ get_or_append_left left (file ∷ []) d l less)
              (first.each l (omega (arith, less, count)) d);
        },
        subst (IsLogOf (length left) loggers mark) (ap (λ fs. get_or fs (length left) file) are ∙ get_or_push left file file (length left) refl)
            (first.each (length left) (omega (arith, count)) file),
        count,
      )

-- of all loggers
pub all_logs : {D : Type 0} {loggers mark : ℕ} {files : List (LogFileView D)} → AreLogsOf loggers mark files
    → AreFirstLogs loggers loggers mark files
all_logs are = record { count = are.count; each = are.each }

pub are_all_logs : {D : Type 0} {n loggers mark : ℕ} {files : List (LogFileView D)} → n ≡ loggers → AreFirstLogs n loggers mark files
    → AreLogsOf loggers mark files
are_all_logs {D} {n} {loggers} {mark} {files} all first = record {
  count = first.count ∙ all;
  each = λ l less file. first.each l (omega (arith, less, all)) file;
}

-- the last of the loggers and its log file
pub record IsLastPair {D : Type 0} (board : BoardView) (seats : List SeatView) (files : List (LogFileView D)) (seat : SeatView)
    (file : LogFileView D) : Type 0 where
  pub seats_left : seats ≡ logger_seats board (length seats)
  pub files_left : AreFirstLogs (length seats) board.plan.loggers board.plan.base files
  pub same_board : seat.board ≡ board
  pub number : seat ≡ new_seat seat.board (Logger file.header.logger)
  pub loggers : seat.board.plan.loggers ≡ file.header.loggers
  pub base : seat.board.plan.base ≡ file.last.mark
  pub place : file.header.logger ≡ length files

pub last_pair : {D : Type 0} {board : BoardView} {all_seats seats : List SeatView} {all_files files : List (LogFileView D)} {seat : SeatView}
    {file : LogFileView D} → all_seats ≡ logger_seats board (length all_seats)
    → AreFirstLogs (length all_seats) board.plan.loggers board.plan.base all_files
    → all_seats ≡ seats ++ seat ∷ [] → all_files ≡ files ++ file ∷ []
    → IsLastPair board seats files seat file
last_pair {D} {board} {all_seats} {seats} {all_files} {files} {seat} {file} are first seats_are files_are =
    let seated = last_seat board all_seats seats seat are seats_are in
    let filed = last_log (length all_seats) all_files files file files_are first in
    let so_many : length all_seats ≡ length seats + 1 = ap length seats_are ∙ length-append seats (seat ∷ []) in
    let same : length files ≡ length seats = omega (arith, filed.2, so_many) in
    let same_board : seat.board ≡ board = ap (λ (s : SeatView). s.board) seated.1 in
    let number : length seats ≡ file.header.logger = sym (filed.1.logger_is ∙ same) in
    record {
      seats_left = seated.0;
      files_left = subst (λ (n : ℕ). AreFirstLogs n board.plan.loggers board.plan.base files) same filed.0;
      same_board = same_board;
      number = seated.1 ∙ ap₂ (λ (b : BoardView) (n : ℕ). new_seat b (Logger n)) (sym same_board) number;
      loggers = ap (λ (b : BoardView). b.plan.loggers) same_board ∙ sym filed.1.loggers_are;
      base = ap (λ (b : BoardView). b.plan.base) same_board ∙ sym filed.1.mark_is;
      place = filed.1.logger_is;
    }

-- log files that are left of all of them, and the last is found at its place
abbrev pub AreLeftOf : {X : Type 0} → List X → List X → Type 0
AreLeftOf {X} all left = (behind : List X) × (all ≡ left ++ behind)

pub left_next : {X : Type 0} (all some left : List X) (x : X) → some ≡ left ++ x ∷ [] → AreLeftOf all some → AreLeftOf all left
left_next all some left x is are = (x ∷ are.0, are.1 ∙ ap (λ l. l ++ are.0) is ∙ append_assoc left (x ∷ []) are.0)

pub found_last : {D : Type 0} (seen_of : D → List ℕ) (story_of : D → List Call) (all some left : List (LogFileView D)) (file : LogFileView D) (k : ℕ)
    → some ≡ left ++ file ∷ [] → AreLeftOf all some → k ≡ length left → as_they_are seen_of story_of all k ≡ file_on seen_of story_of file
found_last seen_of story_of all some left file k is are number =
    let whole : all ≡ left ++ (file ∷ are.0) = are.1 ∙ ap (λ l. l ++ are.0) is ∙ append_assoc left (file ∷ []) are.0 in
    let here : length left ≡ length left + 0 = omega arith in
    found_there seen_of story_of all (length left) k file number
    (let long = ap length whole ∙ length-append left (file ∷ are.0) in omega arith)
    (ap (λ l. get_or l (length left) file) whole ∙ ap (λ n. get_or (left ++ (file ∷ are.0)) n file) here
    ∙ get_or-append-add left (file ∷ are.0) 0 file)
