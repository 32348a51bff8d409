-- An office may go to another thread where its disk may.
use denote.RattleType.{RattleType}
use denote.Param.Send.{IsSend, sendable, view_send}
use Rattle.al_disk.specs.declared.disk.Disk.{Ghosts}
use Rattle.al_journal.proofs.journal.Journal.TheSendSync as the_journal
use Rattle.al_journal.specs.contracts.journal.Journal as a_journal
use Rattle.al_office.proofs.ledger.Ledger.TheSendSync as the_ledger
use Rattle.al_office.specs.contracts.journaled.Office as an_office
use Rattle.al_office.specs.contracts.journaled.Office.TheInside as the_office
use Rattle.al_office.specs.contracts.ledger.Ledger as a_ledger
use Rattle.al_office.specs.contracts.opened.Opened as an_opened
use Rattle.al_office.specs.contracts.opened.Opened.TheInside as the_opened

ledger_send : IsSend a_ledger.the_row
ledger_send = the_ledger.the_send

journal_send : (D : RattleType) (g : Ghosts D.Denot) → IsSend D → IsSend (a_journal.the_row D g)
journal_send D g sends = the_journal.the_send D g sends

opened_inside : (D : RattleType) (g : Ghosts D.Denot) → IsSend D → IsSend (the_opened.the_row D g)
opened_inside D g sends = search sendable depth 10

opened_send : (D : RattleType) (g : Ghosts D.Denot) → IsSend D → IsSend (an_opened.the_row D g)
opened_send D g sends = view_send (the_opened.the_row D g) _ _ _ _ (opened_inside D g sends)

office_inside : (D : RattleType) (g : Ghosts D.Denot) → IsSend D → IsSend (the_office.the_row D g)
office_inside D g sends = search (journal_send, ledger_send, opened_send, sendable) depth 10

pub office_send : (D : RattleType) (g : Ghosts D.Denot) → IsSend D → IsSend (an_office.the_row D g)
office_send D g sends = view_send (the_office.the_row D g) _ _ _ _ (office_inside D g sends)
