-- The limits of keys.
use Rattle.al_base.specs.Identifiers.{IsTypeName}
use Rattle.al_base.specs.Limits.{IsQualifier, IsResourceText}
use Rattle.al_ids.specs.declared.key.AlarmKey.{AlarmKey}

pub record IsKeyWithin (key : AlarmKey) : Type 0 where
  pub resource : IsResourceText key.resource
  pub type_id : IsTypeName key.type_id
  pub qualifier : IsQualifier key.qualifier
