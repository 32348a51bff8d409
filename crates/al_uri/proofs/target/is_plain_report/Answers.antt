use Rattle.std.proofs.Common.{rules, ◌≡◌, Ok, None, ap, sym, subst}
use Rattle.std.specs.Option.{option_copied}
use Rattle.std.specs.Prelude.{codes}
use Rattle.al_uri.specs.Targets.{target_of}
use Rattle.al_uri.specs.declared.target.Target.TheVariants.{Report}
use Rattle.al_uri.proofs.Reports.{report_path}
use Rattle.al_uri.proofs.target.is_plain_report.Goals as goal

pub returns-in-None : goal.returns-in-None
returns-in-None c = λ is.
    let here : c.args.path.now ≡ codes "/restconf/operations/alarmd:report" = search rules in
    let none : option_copied c.args.query ≡ None = ap option_copied c.in-None.is in
    subst (λ q. target_of c.args.path.now q ≡ Ok Report) (sym none) (report_path c.args.path.now here)
