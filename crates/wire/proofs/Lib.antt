mod Fated
mod Outgoing
mod Queues
