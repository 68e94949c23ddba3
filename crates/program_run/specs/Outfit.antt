-- The log files with which an engine runs.
use Rattle.std.specs.Prelude.{◌≡◌, ℕ, ◌<◌, List, length, slice_index_or}
use Rattle.logfile.specs.Standing.{LogFileView}

-- a log file is that of this logger, one of so many, and stands at this mark
pub record IsLogOf {D : Type 0} (logger loggers mark : ℕ) (file : LogFileView D) : Type 0 where
  pub logger_is : file.header.logger ≡ logger
  pub loggers_are : file.header.loggers ≡ loggers
  pub mark_is : file.last.mark ≡ mark

-- log files are those of so many loggers, in their order, and stand at one mark
pub record AreLogsOf {D : Type 0} (loggers mark : ℕ) (files : List (LogFileView D)) : Type 0 where
  pub count : length files ≡ loggers
  pub each : (l : ℕ) → l < loggers → (file : LogFileView D) → IsLogOf l loggers mark (slice_index_or files l file)
