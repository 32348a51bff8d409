-- The resource that a request names.
use Rattle.std.specs.Prelude.{Result}
use Rattle.al_http.specs.Requests.{RequestMessage, path_of, query_of}
use Rattle.al_uri.specs.Targets.{target_of}
use Rattle.al_uri.specs.declared.fault.UriFault.{UriFault}
use Rattle.al_uri.specs.declared.fault.UriFault.TheVariants as uris
use Rattle.al_uri.specs.declared.target.Target.{Target}
use Rattle.al_restconf.specs.Faults.{faulted}
use Rattle.al_restconf.specs.declared.fault.Fault.{Fault}
use Rattle.al_restconf.specs.declared.fault.Fault.TheVariants.{NoSuchPath, BadEscape, BadKeys, BadQuery, Memory}

abbrev pub uri_fault : UriFault → Fault
uri_fault uris.NoSuchPath = NoSuchPath
uri_fault uris.BadEscape = BadEscape
uri_fault uris.BadKeys = BadKeys
uri_fault uris.BadQuery = BadQuery
uri_fault uris.Memory = Memory

-- the resource, by the path and then the query
unfoldable pub target_in : RequestMessage → Result Target Fault
target_in request = faulted uri_fault (target_of (path_of request.target) (query_of request.target))
