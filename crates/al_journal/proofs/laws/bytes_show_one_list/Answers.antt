use Rattle.al_journal.proofs.Frames.{capacity_once, shows_birth, shows_once, shows_whole, torn_birth}
use Rattle.al_journal.proofs.laws.bytes_show_one_list.Goals as goal

pub returns-clause-once : goal.returns-clause-once
returns-clause-once c = λ image capacity other payloads others shows shows'. shows_once capacity payloads image shows other others shows'

pub returns-clause-birth : goal.returns-clause-birth
returns-clause-birth c = λ image capacity payloads shows. shows_birth capacity payloads image shows

pub returns-clause-whole : goal.returns-clause-whole
returns-clause-whole c = λ image capacity payloads count shows torn. shows_whole capacity payloads image shows count torn

pub returns-clause-torn : goal.returns-clause-torn
returns-clause-torn c = λ image count torn none. none torn.capacity (torn_birth count image torn)

pub returns-clause-born : goal.returns-clause-born
returns-clause-born c = λ image capacity other has has'. capacity_once capacity other image has has'
