-- How long a page of the log is.
use Rattle.std.proofs.Common.{◌≡◌, ℕ, ◌+◌, ◌-◌, min, drop, length, ◌∙◌, ap, arith}
use Rattle.std.proofs.lemmas.List.{length-take, length-drop}
use Rattle.al_notify.specs.Logs.{LogView, IsLog, oldest_of, page_of}

pub page_long : (log : LogView) (start : ℕ) → IsLog log → length (page_of log start) ≡ min 256 ((log.sent + 1 - oldest_of log) - (start - oldest_of log))
page_long log start is =
    length-take 256 (drop (start - oldest_of log) log.notes)
    ∙ ap (min 256) (length-drop (start - oldest_of log) log.notes ∙ ap (λ n. n - (start - oldest_of log)) whole)
  where
    whole : length log.notes ≡ log.sent + 1 - oldest_of log
    whole = omega (arith, is.kept)
