-- The two ends of a line.
use Rattle.octets.specs.declared.role.Role.{Role}
use Rattle.octets.specs.declared.role.Role.TheVariants.{Client, Server}

abbrev pub peer : Role → Role
peer Client = Server
peer Server = Client
