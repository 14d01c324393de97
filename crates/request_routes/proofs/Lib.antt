mod Finding
mod Routing
