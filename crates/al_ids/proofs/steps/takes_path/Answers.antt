use Rattle.al_ids.proofs.steps.takes_path.Goals as goal

pub returns : goal.returns
returns c =
    let asked = c.requires.xpath in
    let given = c.requires.path in (
      λ h. record { xpath = asked; path = given; steps = (c.takes_steps.ensures asked.steps given.steps asked.each asked.spelling given.each given.spelling).0 h },
      λ takes. (c.takes_steps.ensures takes.xpath.steps takes.path.steps takes.xpath.each takes.xpath.spelling takes.path.each takes.path.spelling).1 takes.steps,
    )
