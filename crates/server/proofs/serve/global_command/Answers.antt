-- Each command's contract, with what stays put beside it. Assumes nothing.
use mathlib.Core.Path.{◌≡◌, refl, sym, ap, ◌∙◌}
use lib.ListN.{length}
use Rattle.frame.specs.declared.command_identifier.CommandIdentifier.{CommandIdentifier}
use Rattle.frame.specs.CommandIdentifier.{command_of}
use Rattle.frame.specs.Answer.{within}
use Rattle.reporting.specs.Table.{capacity, holding}
use Rattle.reporting.specs.Carried.{table_in}
use Rattle.server.specs.Serve.{state, storing, tabling, commanded}
use Rattle.server.proofs.Commands.{rest_unsupported}
use Rattle.server.proofs.serve.global_command.Goals as goal

pub returns-in-ReadAttributes-clause-answered : goal.returns-in-ReadAttributes-clause-answered
unfolding commanded
returns-in-ReadAttributes-clause-answered c =
    let told : (k : CommandIdentifier) → c.from.result ≡ k → commanded 8 capacity c.args.store.now (holding (table_in c.args.table.now.bytes.now)) c.args.unicast c.args.request c.args.body.now (length c.args.reply.now) k ≡ commanded 8 capacity c.args.store.now (holding (table_in c.args.table.now.bytes.now)) c.args.unicast c.args.request c.args.body.now (length c.args.reply.now) (command_of c.args.request.command_identifier.0) = λ k e. ap (commanded 8 capacity c.args.store.now (holding (table_in c.args.table.now.bytes.now)) c.args.unicast c.args.request c.args.body.now (length c.args.reply.now)) (sym e ∙ c.from.ensures) in
    ap (within (λ u. state c.args.store.now (holding (table_in c.args.table.now.bytes.now)))) c.read_attributes.ensures ∙ told _ c.in-ReadAttributes.is

pub returns-in-WriteAttributes-clause-answered : goal.returns-in-WriteAttributes-clause-answered
unfolding commanded
returns-in-WriteAttributes-clause-answered c =
    let told : (k : CommandIdentifier) → c.from.result ≡ k → commanded 8 capacity c.args.store.now (holding (table_in c.args.table.now.bytes.now)) c.args.unicast c.args.request c.args.body.now (length c.args.reply.now) k ≡ commanded 8 capacity c.args.store.now (holding (table_in c.args.table.now.bytes.now)) c.args.unicast c.args.request c.args.body.now (length c.args.reply.now) (command_of c.args.request.command_identifier.0) = λ k e. ap (commanded 8 capacity c.args.store.now (holding (table_in c.args.table.now.bytes.now)) c.args.unicast c.args.request c.args.body.now (length c.args.reply.now)) (sym e ∙ c.from.ensures) in
    ap (storing (holding (table_in c.args.table.now.bytes.now))) c.write_attributes.ensures ∙ told _ c.in-WriteAttributes.is

pub returns-in-WriteAttributesUndivided-clause-answered : goal.returns-in-WriteAttributesUndivided-clause-answered
unfolding commanded
returns-in-WriteAttributesUndivided-clause-answered c =
    let told : (k : CommandIdentifier) → c.from.result ≡ k → commanded 8 capacity c.args.store.now (holding (table_in c.args.table.now.bytes.now)) c.args.unicast c.args.request c.args.body.now (length c.args.reply.now) k ≡ commanded 8 capacity c.args.store.now (holding (table_in c.args.table.now.bytes.now)) c.args.unicast c.args.request c.args.body.now (length c.args.reply.now) (command_of c.args.request.command_identifier.0) = λ k e. ap (commanded 8 capacity c.args.store.now (holding (table_in c.args.table.now.bytes.now)) c.args.unicast c.args.request c.args.body.now (length c.args.reply.now)) (sym e ∙ c.from.ensures) in
    ap (storing (holding (table_in c.args.table.now.bytes.now))) c.write_attributes_undivided.ensures ∙ told _ c.in-WriteAttributesUndivided.is

pub returns-in-WriteAttributesNoResponse-clause-answered : goal.returns-in-WriteAttributesNoResponse-clause-answered
unfolding commanded
returns-in-WriteAttributesNoResponse-clause-answered c =
    let told : (k : CommandIdentifier) → c.from.result ≡ k → commanded 8 capacity c.args.store.now (holding (table_in c.args.table.now.bytes.now)) c.args.unicast c.args.request c.args.body.now (length c.args.reply.now) k ≡ commanded 8 capacity c.args.store.now (holding (table_in c.args.table.now.bytes.now)) c.args.unicast c.args.request c.args.body.now (length c.args.reply.now) (command_of c.args.request.command_identifier.0) = λ k e. ap (commanded 8 capacity c.args.store.now (holding (table_in c.args.table.now.bytes.now)) c.args.unicast c.args.request c.args.body.now (length c.args.reply.now)) (sym e ∙ c.from.ensures) in
    ap (storing (holding (table_in c.args.table.now.bytes.now))) c.write_attributes_no_response.ensures ∙ told _ c.in-WriteAttributesNoResponse.is

pub returns-in-ConfigureReporting-clause-answered : goal.returns-in-ConfigureReporting-clause-answered
unfolding commanded
returns-in-ConfigureReporting-clause-answered c =
    let told : (k : CommandIdentifier) → c.from.result ≡ k → commanded 8 capacity c.args.store.now (holding (table_in c.args.table.now.bytes.now)) c.args.unicast c.args.request c.args.body.now (length c.args.reply.now) k ≡ commanded 8 capacity c.args.store.now (holding (table_in c.args.table.now.bytes.now)) c.args.unicast c.args.request c.args.body.now (length c.args.reply.now) (command_of c.args.request.command_identifier.0) = λ k e. ap (commanded 8 capacity c.args.store.now (holding (table_in c.args.table.now.bytes.now)) c.args.unicast c.args.request c.args.body.now (length c.args.reply.now)) (sym e ∙ c.from.ensures) in
    ap (tabling c.args.store.now) c.configure_reporting.ensures.answered ∙ told _ c.in-ConfigureReporting.is

pub returns-in-ReadReportingConfiguration-clause-answered : goal.returns-in-ReadReportingConfiguration-clause-answered
unfolding commanded
returns-in-ReadReportingConfiguration-clause-answered c =
    let told : (k : CommandIdentifier) → c.from.result ≡ k → commanded 8 capacity c.args.store.now (holding (table_in c.args.table.now.bytes.now)) c.args.unicast c.args.request c.args.body.now (length c.args.reply.now) k ≡ commanded 8 capacity c.args.store.now (holding (table_in c.args.table.now.bytes.now)) c.args.unicast c.args.request c.args.body.now (length c.args.reply.now) (command_of c.args.request.command_identifier.0) = λ k e. ap (commanded 8 capacity c.args.store.now (holding (table_in c.args.table.now.bytes.now)) c.args.unicast c.args.request c.args.body.now (length c.args.reply.now)) (sym e ∙ c.from.ensures) in
    ap (within (λ u. state c.args.store.now (holding (table_in c.args.table.now.bytes.now)))) (rw c.read.ensures at c.read_reporting_configuration.ensures) ∙ told _ c.in-ReadReportingConfiguration.is

pub returns-in-DiscoverAttributes-clause-answered : goal.returns-in-DiscoverAttributes-clause-answered
unfolding commanded
returns-in-DiscoverAttributes-clause-answered c =
    let told : (k : CommandIdentifier) → c.from.result ≡ k → commanded 8 capacity c.args.store.now (holding (table_in c.args.table.now.bytes.now)) c.args.unicast c.args.request c.args.body.now (length c.args.reply.now) k ≡ commanded 8 capacity c.args.store.now (holding (table_in c.args.table.now.bytes.now)) c.args.unicast c.args.request c.args.body.now (length c.args.reply.now) (command_of c.args.request.command_identifier.0) = λ k e. ap (commanded 8 capacity c.args.store.now (holding (table_in c.args.table.now.bytes.now)) c.args.unicast c.args.request c.args.body.now (length c.args.reply.now)) (sym e ∙ c.from.ensures) in
    ap (within (λ u. state c.args.store.now (holding (table_in c.args.table.now.bytes.now)))) c.discover_attributes.ensures ∙ told _ c.in-DiscoverAttributes.is

pub returns-in-DefaultResponse-clause-answered : goal.returns-in-DefaultResponse-clause-answered
unfolding commanded
returns-in-DefaultResponse-clause-answered c =
    let told : (k : CommandIdentifier) → c.from.result ≡ k → commanded 8 capacity c.args.store.now (holding (table_in c.args.table.now.bytes.now)) c.args.unicast c.args.request c.args.body.now (length c.args.reply.now) k ≡ commanded 8 capacity c.args.store.now (holding (table_in c.args.table.now.bytes.now)) c.args.unicast c.args.request c.args.body.now (length c.args.reply.now) (command_of c.args.request.command_identifier.0) = λ k e. ap (commanded 8 capacity c.args.store.now (holding (table_in c.args.table.now.bytes.now)) c.args.unicast c.args.request c.args.body.now (length c.args.reply.now)) (sym e ∙ c.from.ensures) in
    ap (within (λ u. state c.args.store.now (holding (table_in c.args.table.now.bytes.now)))) c.refuse.ensures ∙ told _ c.in-DefaultResponse.is

pub returns-in_default-clause-answered : goal.returns-in_default-clause-answered
returns-in_default-clause-answered c =
    let told : (k : CommandIdentifier) → c.from.result ≡ k → commanded 8 capacity c.args.store.now (holding (table_in c.args.table.now.bytes.now)) c.args.unicast c.args.request c.args.body.now (length c.args.reply.now) k ≡ commanded 8 capacity c.args.store.now (holding (table_in c.args.table.now.bytes.now)) c.args.unicast c.args.request c.args.body.now (length c.args.reply.now) (command_of c.args.request.command_identifier.0) = λ k e. ap (commanded 8 capacity c.args.store.now (holding (table_in c.args.table.now.bytes.now)) c.args.unicast c.args.request c.args.body.now (length c.args.reply.now)) (sym e ∙ c.from.ensures) in
    ap (within (λ u. state c.args.store.now (holding (table_in c.args.table.now.bytes.now)))) c.default_response.ensures
    ∙ rest_unsupported 8 capacity c.args.store.now (holding (table_in c.args.table.now.bytes.now)) c.args.unicast c.args.request c.args.body.now (length c.args.reply.now) c.from.result c.in_default.in_default-own.keys9
    ∙ told c.from.result refl
