-- What settling leaves, and what a commit behind it leaves.
use Rattle.std.proofs.Common.{◌≡◌, false, true, ap, refl}
use Rattle.std.proofs.lemmas.Result.{err_from_is_err_and}
use Rattle.al_disk.proofs.Going.{so_goes, then_goes}
use Rattle.al_office.specs.Images.{frames_of}
use Rattle.al_office.proofs.Settling.{commit_holds, commit_writes, full_writes, is_doubted, settled_goes, settled_holds, unsettled_holds, unsettled_writes}
use Rattle.al_office.proofs.writing.write.Goals as goal

pub returns-in_err-settle-clause-holds : goal.returns-in_err-settle-clause-holds
returns-in_err-settle-clause-holds g c =
    let p = err_from_is_err_and c.from_residual.result c.from_residual.ensures.1 in
    let doubted = is_doubted c.args.journal.now.doubt (λ sure. let no : false ≡ true = (c.in_err-settle.ensures.idle sure).0 in cc) in
    rw (p.1) (λ h e holds fits is_record. unsettled_holds _ _ c.args.journal.now h holds c.settle.new.self c.in_err-settle.ensures.same _ c.in_err-settle.ensures.refused doubted (c.in_err-settle.ensures.leaves doubted))

pub returns-in_err-settle-clause-writes : goal.returns-in_err-settle-clause-writes
returns-in_err-settle-clause-writes g c =
    let doubted = is_doubted c.args.journal.now.doubt (λ sure. let no : false ≡ true = (c.in_err-settle.ensures.idle sure).0 in cc) in
    λ h e holds fits is_record. unsettled_writes _ _ c.args.journal.now h holds e _ c.settle.new.self.doubt doubted (c.in_err-settle.ensures.leaves doubted)

pub returns-in_default-clause-holds : goal.returns-in_default-clause-holds
returns-in_default-clause-holds g c = λ h e holds fits is_record.
    let settled = settled_goes _ _ c.args.journal.now h holds c.settle.new.self.doubt c.in_ok-settle.ensures.leaves (λ sure. ap (λ v. g.D.Disk.told v.disk) (c.in_ok-settle.ensures.idle sure).1) in
    settled_holds _ _ c.args.journal.now h holds c.settle.new.self c.in_ok-settle.ensures.same (c.in_ok-settle.ensures.ok refl) settled

pub returns-in_default-clause-writes : goal.returns-in_default-clause-writes
returns-in_default-clause-writes g c = λ h e holds fits is_record.
    let settled = settled_goes _ _ c.args.journal.now h holds c.settle.new.self.doubt c.in_ok-settle.ensures.leaves (λ sure. ap (λ v. g.D.Disk.told v.disk) (c.in_ok-settle.ensures.idle sure).1) in
    so_goes _ _ _ _ settled (λ s t is there. full_writes c.args.journal.now h e s t there)

pub commit-requires-clause-stands : goal.commit-requires-clause-stands
commit-requires-clause-stands g c =
    let h = c.requires.0 in
    let holds = c.requires.1 in
    let settled = settled_goes _ _ c.args.journal.now h holds c.settle.new.self.doubt c.in_ok-settle.ensures.leaves (λ sure. ap (λ v. g.D.Disk.told v.disk) (c.in_ok-settle.ensures.idle sure).1) in
    let sure = c.in_ok-settle.ensures.ok refl in
    let there = settled_holds _ _ c.args.journal.now h holds c.settle.new.self c.in_ok-settle.ensures.same sure settled in
    λ s is. (frames_of h, there.sure sure s is)

pub returns-clause-holds : goal.returns-clause-holds
returns-clause-holds g c = λ h e holds fits is_record.
    let settled = settled_goes _ _ c.args.journal.now h holds c.settle.new.self.doubt c.in_ok-settle.ensures.leaves (λ sure. ap (λ v. g.D.Disk.told v.disk) (c.in_ok-settle.ensures.idle sure).1) in
    let sure = c.in_ok-settle.ensures.ok refl in
    let there = settled_holds _ _ c.args.journal.now h holds c.settle.new.self c.in_ok-settle.ensures.same sure settled in
    let is = rw c.in-Some.is at is_record in
    commit_holds _ _ c.settle.new.self c.commit.new.self h e there sure c.commit.ensures.walked c.commit.ensures.capacity c.commit.result c.in-Some.piece is.0 fits
    c.commit.ensures.leaves c.commit.ensures.ok c.commit.ensures.refused c.commit.ensures.untouched (λ same. ap (λ v. g.D.Disk.told v.disk) same)

pub returns-clause-writes : goal.returns-clause-writes
returns-clause-writes g c = λ h e holds fits is_record.
    let settled = settled_goes _ _ c.args.journal.now h holds c.settle.new.self.doubt c.in_ok-settle.ensures.leaves (λ sure. ap (λ v. g.D.Disk.told v.disk) (c.in_ok-settle.ensures.idle sure).1) in
    let is = rw c.in-Some.is at is_record in
    then_goes _ _ _ _ _ _ settled c.commit.ensures.leaves (λ s t u told there commits.
    commit_writes c.args.journal.now c.settle.new.self h e c.in-Some.piece c.commit.result c.commit.new.self.doubt s t u c.in_ok-settle.ensures.same is.0 there commits)
