-- The methods of requests, and which a resource has (RFC 8040, section 4).
use Rattle.std.specs.Prelude.{ℕ, ◌==◌, Bool, true, false, if◌then◌else◌, Option, None, Some, Result, Ok, Err, List, codes}
use Rattle.std.specs.Int.{bit_at}
use Rattle.al_uri.specs.Resources.{is_same}
use Rattle.al_uri.specs.declared.target.Target.{Target}
use Rattle.al_uri.specs.declared.target.Target.TheVariants.{MaxChanges, NotifyMode, NotifyLevel, Shelving, OneShelf, SetState, PurgeAlarms, CompressAlarms, PurgeShelved, CompressShelved, Report, Inventory}
use Rattle.al_restconf.specs.declared.fault.Fault.{Fault}
use Rattle.al_restconf.specs.declared.fault.Fault.TheVariants.{NoSuchMethod}
use Rattle.al_restconf.specs.declared.method.Method.{Method}
use Rattle.al_restconf.specs.declared.method.Method.TheVariants.{Delete, Get, Head, Post, Put}

-- a method by its name, which is compared byte by byte (RFC 9110, section 9.1)
unfoldable pub method_of : List ℕ → Option Method
method_of name =
    if is_same name (codes "DELETE") then Some Delete
    else if is_same name (codes "GET") then Some Get
    else if is_same name (codes "HEAD") then Some Head
    else if is_same name (codes "POST") then Some Post
    else if is_same name (codes "PUT") then Some Put
    else None

-- an answer to HEAD leaves its body out, a refusal too (RFC 9110, section 9.3.2)
abbrev pub is_bare : Option Method → Bool
is_bare (Some Head) = true
is_bare other = false

-- Sets of methods: the bit of each, in the order in which `Allow` tells them.
abbrev pub bit_of : Method → ℕ
bit_of Delete = 0
bit_of Get = 1
bit_of Head = 2
bit_of Post = 3
bit_of Put = 4

-- HEAD stands wherever GET does.
abbrev pub get_alone : ℕ
get_alone = 0b00110

abbrev pub get_and_put : ℕ
get_and_put = 0b10110

abbrev pub get_and_post : ℕ
get_and_post = 0b01110

abbrev pub get_put_and_delete : ℕ
get_put_and_delete = 0b10111

abbrev pub post_alone : ℕ
post_alone = 0b01000

-- the methods of each resource
abbrev pub methods_at : Target → ℕ
methods_at MaxChanges = get_and_put
methods_at NotifyMode = get_and_put
methods_at NotifyLevel = get_and_put
methods_at (Shelving spot) = get_and_post
methods_at (OneShelf name spot) = get_put_and_delete
methods_at (SetState key) = post_alone
methods_at PurgeAlarms = post_alone
methods_at CompressAlarms = post_alone
methods_at PurgeShelved = post_alone
methods_at CompressShelved = post_alone
methods_at Report = post_alone
methods_at Inventory = get_and_put
methods_at other = get_alone

abbrev pub has_method : ℕ → Method → Bool
has_method methods method = bit_at methods (bit_of method) == 1

-- the method that was named, where it is one of these
abbrev pub one_of : ℕ → Option Method → Result Method Fault
one_of methods None = Err (NoSuchMethod methods)
one_of methods (Some method) = if has_method methods method then Ok method else Err (NoSuchMethod methods)
