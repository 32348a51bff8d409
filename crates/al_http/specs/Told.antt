-- What values of the program say.
use Rattle.std.specs.Prelude.{Option, None, Some}
use Rattle.al_http.specs.declared.framer.Stop.{Stop}
use Rattle.al_http.specs.declared.framer.Stop.TheVariants as stops
use Rattle.al_http.specs.declared.rejection.Rejection.TheVariants.{Bad, HeadTooBig, BodyTooBig, Unimplemented}
use Rattle.al_http.specs.ErrorRows.{ErrorRow}
use Rattle.al_http.specs.Streams.{Ending, Ended, Closed, Limit, Cut, Rejected}
use Rattle.al_http.specs.declared.stream.End.{End}
use Rattle.al_http.specs.declared.stream.End.TheVariants.{Input}
use Rattle.al_http.specs.declared.stream.End.TheVariants as ends
use Rattle.al_http.specs.declared.error_row.ErrorRow.{ErrorRow as Row}

-- a row of the program's table
abbrev pub told : Row → ErrorRow
told row =
    record { status = row.status; error_type = row.error_type.now; tag = row.tag.now; message = row.message.now }

-- how a stream ends at a stop, but for a read fault
abbrev pub ending_at : Stop → Option Ending
ending_at stops.ReadFault = None
ending_at stops.Cut = Some Cut
ending_at stops.Bad = Some (Rejected Bad)
ending_at stops.HeadTooBig = Some (Rejected HeadTooBig)
ending_at stops.BodyTooBig = Some (Rejected BodyTooBig)
ending_at stops.Unimplemented = Some (Rejected Unimplemented)

-- how a stream ended
abbrev pub ending_of : End → Ending
ending_of Input = Ended
ending_of ends.Closed = Closed
ending_of ends.Limit = Limit
ending_of ends.Cut = Cut
ending_of (ends.Rejected rejection) = Rejected rejection
