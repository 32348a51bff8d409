-- What a read is answered (RFC 8040, section 4.3).
use Rattle.std.specs.Prelude.{ℕ, nat_le, if◌then◌else◌, false, Option, None, Some, Result, Ok, Err, List, length}
use Rattle.al_http.specs.declared.response.Content.{Content}
use Rattle.al_http.specs.declared.response.Content.TheVariants as contents
use Rattle.al_http.specs.declared.response.Response.{Response}
use Rattle.al_json.specs.Trees.{tree_of}
use Rattle.al_model.specs.History.{replay}
use Rattle.al_model.specs.declared.decision.Refusal.TheVariants.{NoAlarm, NoShelf}
use Rattle.al_model.specs.declared.entry.Entry.{Entry}
use Rattle.al_base.specs.Answers.{and_then, or_fault}
use Rattle.al_uri.specs.declared.target.Target.{Target}
use Rattle.al_uri.specs.declared.target.Target.TheVariants.{HostMeta, OneShelf, OneAlarm, OneShelved, JournalPage}
use Rattle.serde_json.specs.Data.{Data}
use Rattle.serde_json.specs.Written.{compact_text}
use Rattle.al_restconf.specs.Pages.{journal_tree}
use Rattle.al_restconf.specs.declared.fault.Fault.{Fault}
use Rattle.al_restconf.specs.declared.fault.Fault.TheVariants.{Refused, NotSet, TooBig}

-- the most bytes of a response's body
abbrev pub most_body : ℕ
most_body = 67108864

-- a body, with 200
abbrev pub shown : ℕ → Content → Response
shown place content =
    record { status = 200; place = Some place; allow = 0; location = None; content = content; bare = false }

-- why a resource isn't there: no alarm or shelf has its keys, or nothing has set it
abbrev pub absence : Target → Fault
absence (OneShelf name spot) = Refused NoShelf
absence (OneAlarm key) = Refused NoAlarm
absence (OneShelved key) = Refused NoAlarm
absence other = NotSet

abbrev pub within_size : ℕ → List ℕ → Result Response Fault
within_size place text = if nat_le (length text) most_body then Ok (shown place (contents.Tree text)) else Err TooBig

-- the tree of a resource, where it is there: a page of the journal shows the history, and all else the state that it leaves
abbrev pub tree_in : List Entry → Target → Option Data
tree_in history (JournalPage from) = journal_tree history from
tree_in history target = tree_of target (replay history)

-- the resource's tree as text, where it is there and not too big
unfoldable pub read_of : List Entry → Target → Result Response Fault
read_of history HostMeta = Ok (shown (length history) contents.HostMeta)
read_of history target =
    and_then (or_fault (absence target) (tree_in history target)) (λ tree. within_size (length history) (compact_text tree))
