use Rattle.al_base.proofs.FormTests.{decides_text, decides_type_name, decides_operator_name, decides_age}
use Rattle.al_base.proofs.laws.forms_are_tested.Goals as goal

pub returns-clause-texts : goal.returns-clause-texts
returns-clause-texts c = decides_text

pub returns-clause-type_names : goal.returns-clause-type_names
returns-clause-type_names c = decides_type_name

pub returns-clause-operator_names : goal.returns-clause-operator_names
returns-clause-operator_names c = decides_operator_name

pub returns-clause-ages : goal.returns-clause-ages
returns-clause-ages c = decides_age
